-- The judge of the store: numbered pages that change together. A power cut leaves them, and the label, as they were at the last sync, or as a sync that was cut would have made them; what is volatile is blank after it.
-- Assumes nothing.
use Rattle.std.specs.Prelude.{◌≡◌, ℕ, zero, suc, ◌+◌, ◌*◌, ◌<◌, ◌≤◌, Bool, true, false, cond, not, ◌&&◌, T, ◌⊎◌, List, length, Some, ◌==◌, ◌≢◌}
use Rattle.device.specs.Sectors.{all_bytes}
use Rattle.device.specs.Machine.{Judge}
use Rattle.paging.specs.Layout.{one, numbers, rooms}
use Rattle.paging.specs.Pages.{PageCall, Get, Put, PutVolatile, PutThrough, Volatile, Spare, Left, Label, Sync, PageReply, Page, Said, Number, Labelled, Synced, blank_page, blank_label, same_bytes}

-- The pages as they are; which are volatile; the pages and the label at the last sync; and left: so many puts find room, and read nothing.
pub record State : Type 0 where
  pub now : ℕ → List ℕ
  pub volatile : ℕ → Bool
  pub synced : ℕ → List ℕ
  pub label : List ℕ
  pub left : ℕ

abbrev pub is_blank : List ℕ → Bool
is_blank b = same_bytes b blank_page

-- what a sync makes durable
abbrev pub lasting : (ℕ → Bool) → (ℕ → List ℕ) → ℕ → List ℕ
lasting v f n = cond (v n) blank_page (f n)

abbrev pub set_at : {A : Type 0} → ℕ → A → (ℕ → A) → ℕ → A
set_at n x f k = cond (k == n) x (f k)

-- how many of the pages below n are not blank; how many contents are to be kept: those as they are, and those as synced that differ
unfoldable pub live : ℕ → (ℕ → List ℕ) → ℕ
live zero f = 0
live (suc n) f = one (not (is_blank (f n))) + live n f

unfoldable pub used : ℕ → (now old : ℕ → List ℕ) → ℕ
used zero f g = 0
used (suc n) f g = one (not (is_blank (f n))) + (one (not (is_blank (g n)) && not (same_bytes (g n) (f n))) + used n f g)

abbrev pub after_put : ℕ → List ℕ → Bool → ℕ → State → State
after_put n b w l s = record { now = set_at n b s.now; volatile = set_at n (w && not (is_blank b)) s.volatile; synced = s.synced; label = s.label; left = l }

-- a page that there is, and bytes that can be one's
abbrev pub CanPut : ℕ → ℕ → List ℕ → Type 0
CanPut size n b = (n < numbers size) × (length b ≡ 4096) × T (all_bytes b)

abbrev pub CannotPut : ℕ → ℕ → List ℕ → Type 0
CannotPut size n b = (numbers size ≤ n) ⊎ ((length b ≢ 4096) ⊎ T (not (all_bytes b)))

-- no room: nothing is left, and the contents to be kept would be more than the card has places for; what is put as it was synced counts twice
abbrev pub Crowded : ℕ → ℕ → List ℕ → State → Type 0
Crowded size n b s = (s.left ≡ 0) × (is_blank b ≡ false) × (rooms size < used (numbers size) (set_at n b s.now) s.synced + one (same_bytes (s.synced n) b))

-- A PUT of the bytes b as page n, volatile or not. It takes one of what is left at most, and none if it is blank.
pub data PutAnswers (size n : ℕ) (b : List ℕ) (w : Bool) (s : State) : PageReply → State → Type 0 where
  done : (l : ℕ) → CanPut size n b → s.left ≤ l + one (not (is_blank b)) → PutAnswers size n b w s (Said true) (after_put n b w l s)
  no_room : Crowded size n b s → PutAnswers size n b w s (Said false) s
  no_put : CannotPut size n b → PutAnswers size n b w s (Said false) s

-- the calls that put: which page, which bytes, and whether it is volatile from then on
pub data Putting : PageCall → ℕ → List ℕ → Bool → Type 0 where
  by_put : {n : ℕ} {b : List ℕ} → Putting (Put n b) n b false
  by_put_volatile : {n : ℕ} {b : List ℕ} → Putting (PutVolatile n b) n b true
  by_put_through : {n : ℕ} {b : List ℕ} → Putting (PutThrough n b) n b false

-- the same, with so many puts left
abbrev pub with_left : ℕ → State → State
with_left l s = record { now = s.now; volatile = s.volatile; synced = s.synced; label = s.label; left = l }

pub data Answers (size : ℕ) : PageCall → State → PageReply → State → Type 0 where
  gets : (n : ℕ) (s : State) → n < numbers size → Answers size (Get n) s (Page (s.now n)) s
  gets_none : (n : ℕ) (s : State) → numbers size ≤ n → Answers size (Get n) s (Page blank_page) s
  puts : {n : ℕ} {b : List ℕ} {s t : State} {r : PageReply} → PutAnswers size n b false s r t → Answers size (Put n b) s r t
  puts_volatile : {n : ℕ} {b : List ℕ} {s t : State} {r : PageReply} → PutAnswers size n b true s r t → Answers size (PutVolatile n b) s r t
  puts_through : {n : ℕ} {b : List ℕ} {s t : State} {r : PageReply} → PutAnswers size n b false s r t → Answers size (PutThrough n b) s r t
  volatiles : (n : ℕ) (s : State) → n < numbers size →
      Answers size (Volatile n) s (Said true) (record { now = s.now; volatile = set_at n (not (is_blank (s.now n))) s.volatile; synced = s.synced; label = s.label; left = s.left })
  no_volatile : (n : ℕ) (s : State) → numbers size ≤ n → Answers size (Volatile n) s (Said false) s
  -- any blank page but 0; none only where nothing is left, and more pages than there is room for are not blank
  spares : (from n : ℕ) (s : State) → 1 ≤ n → n < numbers size → s.now n ≡ blank_page → Answers size (Spare from) s (Number n) s
  no_spare : (from : ℕ) (s : State) → s.left ≡ 0 → rooms size < live (numbers size) s.now → Answers size (Spare from) s (Number 0) s
  -- more may be left than was known
  lefts : (s : State) (l : ℕ) → s.left ≤ l → Answers size Left s (Number l) (with_left l s)
  labels : (s : State) → Answers size Label s (Labelled (Some s.label)) s
  -- after a sync only the pages as they are take room
  syncs : (label : List ℕ) (s : State) (l : ℕ) → length label ≡ 248 → T (all_bytes label) → rooms size ≤ l + live (numbers size) s.now →
      Answers size (Sync label) s Synced (record { now = s.now; volatile = s.volatile; synced = lasting s.volatile s.now; label = label; left = l })
  -- what is no label is not synced with
  no_sync : (label : List ℕ) (s : State) → (length label ≢ 248) ⊎ T (not (all_bytes label)) → Answers size (Sync label) s Synced s

-- a cut leaves what was synced
abbrev pub still : (ℕ → List ℕ) → List ℕ → ℕ → State
still f label l = record { now = f; volatile = λ n. false; synced = f; label = label; left = l }

pub data Down (size : ℕ) : State → State → Type 0 where
  leaves : (s : State) (l : ℕ) → rooms size ≤ l + live (numbers size) s.synced → Down size s (still s.synced s.label l)

abbrev pub kept : ℕ → Judge PageCall PageReply
kept size = record { State = State; start = still (λ n. blank_page) blank_label (rooms size); Answers = Answers size; Down = Down size }

-- how many sectors a call reads at most
abbrev pub put_price : ℕ → State → ℕ
put_price size s = cond (s.left == 0) (2 * size + 16) 0

unfoldable pub price : ℕ → State → PageCall → ℕ
price size s (Get n) = 8
price size s (Put n b) = put_price size s
price size s (PutVolatile n b) = put_price size s
price size s (PutThrough n b) = put_price size s
price size s (Volatile n) = 0
price size s (Spare from) = 0
price size s Left = 0
price size s Label = 0
price size s (Sync l) = 0
