-- Laws of the page of a node, of places among entries, and of page numbers.
-- Assumes nothing.
use Rattle.std.specs.Prelude.{◌≡◌, ℕ, ◌+◌, ◌-◌, ◌^◌, ◌<◌, ◌≤◌, Bool, true, false, List, ◌++◌, length, get_or, take, replicate, ◌≢◌, slice_index, slice_index_or}
use Rattle.std.specs.List.{AllByRecursion}
use Rattle.model.specs.Tree.{less_name}
use Rattle.nodes.specs.Entries.{Entry, blank, weight_of, Fits, fitting, front_count}
use Rattle.nodes.specs.Page.{encode, level_of, entries_of, weight_at}
use Rattle.nodes.specs.Firsts.{first_where, first_from, first_after, Rising}
use Rattle.nodes.specs.Numbers.{number_bytes, number_of}

abbrev pub Byte : ℕ → Type 0
Byte b = b < 256

abbrev pub ByteEntry : Entry → Type 0
ByteEntry e = AllByRecursion Byte e.key × AllByRecursion Byte e.value

-- A node's page is 4,096 long and says the level, the entries and the weight that it was made of; it is of bytes where those are.
pub record Written (l : ℕ) (es : List Entry) : Type 0 where
  pub long : length (encode l es) ≡ 4096
  pub level : level_of (encode l es) ≡ l
  pub entries : entries_of (encode l es) ≡ es
  pub heavy : weight_at (encode l es) ≡ weight_of es
  pub bytes : l < 256 → AllByRecursion ByteEntry es → AllByRecursion Byte (encode l es)

abbrev pub ReadsBack : Type 0
ReadsBack = (l : ℕ) (es : List Entry) → Fits es → Written l es

-- no node is blank: its mark is not 0
abbrev pub NeverBlank : Type 0
NeverBlank = (l : ℕ) (es : List Entry) → (slice_index (encode l es) 0 ≡ 183) × (encode l es ≢ replicate 4096 0)

-- a page is of one node
abbrev pub OneNode : Type 0
OneNode = (l m : ℕ) (es fs : List Entry) → Fits es → Fits fs → encode l es ≡ encode m fs → (l ≡ m) × (es ≡ fs)

-- what any page of bytes says is of bytes
abbrev pub BytesStay : Type 0
BytesStay = (p : List ℕ) → AllByRecursion Byte p → AllByRecursion ByteEntry (entries_of p)

-- n is the first place whose entry passes a test, and one past the last where none does
pub record First (f : Entry → Bool) (es : List Entry) (n : ℕ) : Type 0 where
  pub within : n ≤ length es
  pub before : (i : ℕ) → i < n → f (slice_index_or es i blank) ≡ false
  pub here : n < length es → f (slice_index_or es n blank) ≡ true

abbrev pub FirstIsFirst : Type 0
FirstIsFirst = (f : Entry → Bool) (es : List Entry) → First f es (first_where f es) × ((n : ℕ) → First f es n → n ≡ first_where f es)

-- where keys rise, they part at k: so the last entry whose key is at most k is the one before the first after k
pub record Parted (k : List ℕ) (es : List Entry) : Type 0 where
  pub below : (i : ℕ) → i < first_from k es → less_name (get_or es i blank).key k ≡ true
  pub from : (i : ℕ) → first_from k es ≤ i → i < length es → less_name (get_or es i blank).key k ≡ false
  pub up_to : (i : ℕ) → i < first_after k es → less_name k (get_or es i blank).key ≡ false
  pub after : (i : ℕ) → first_after k es ≤ i → i < length es → less_name k (get_or es i blank).key ≡ true

abbrev pub RisingParts : Type 0
RisingParts = (k : List ℕ) (es : List Entry) → Rising es → Parted k es

-- the first n entries weigh at least t, if all do, and fewer of them less
pub record Shortest (t : ℕ) (es : List Entry) (n : ℕ) : Type 0 where
  pub within : n ≤ length es
  pub enough : n < length es → t ≤ weight_of (take n es)
  pub less : (m : ℕ) → m < n → weight_of (take m es) < t

abbrev pub FrontIsShortest : Type 0
FrontIsShortest = (t : ℕ) (es : List Entry) → Shortest t es (front_count t es) × ((n : ℕ) → Shortest t es n → n ≡ front_count t es)

-- the front of two rows together is that of the first, and in the second that of what is then left
abbrev pub FrontJoins : Type 0
FrontJoins = (t : ℕ) (es fs : List Entry) → front_count t (es ++ fs) ≡ front_count t es + front_count (t - weight_of (take (front_count t es) es)) fs

-- the first n entries weigh at most so much, and one more of them more
pub record Longest (room : ℕ) (es : List Entry) (n : ℕ) : Type 0 where
  pub light : weight_of (take n es) ≤ room
  pub most : n < length es → room < weight_of (take (n + 1) es)

abbrev pub FittingIsLongest : Type 0
FittingIsLongest = (room : ℕ) (es : List Entry) → ((n : ℕ) × (fitting room es ≡ take n es) × Longest room es n) × (weight_of es ≤ room → fitting room es ≡ es)

-- a page number is five bytes, which say it again
pub record Numbered (n : ℕ) : Type 0 where
  pub long : length (number_bytes n) ≡ 5
  pub bytes : AllByRecursion Byte (number_bytes n)
  pub same : n < 2 ^ 40 → number_of (number_bytes n) ≡ n

abbrev pub NumbersReadBack : Type 0
NumbersReadBack = ((n : ℕ) → Numbered n) × ((bs : List ℕ) → AllByRecursion Byte bs → number_of bs < 2 ^ 40)
