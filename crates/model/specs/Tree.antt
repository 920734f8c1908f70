-- Files, folders and links, and how they hang together.
-- Assumes nothing.
use Rattle.std.specs.Prelude.{ℕ, zero, suc, ◌+◌, ◌*◌, ◌/◌, Bool, true, false, cond, not, ◌&&◌, ◌||◌, List, [], ◌∷◌, ◌++◌, length, ◌==◌, nat_lt}

-- a name is a list of bytes
abbrev pub Name : Type 0
Name = List ℕ

pub record Entry : Type 0 where
  pub name : Name
  pub node : ℕ

-- A folder knows the folder that it is in, its parent; its entries stand in the order of their names. A link holds a path.
pub data Body : Type 0 where
  File : (bytes : List ℕ) → Body
  Folder : (parent : ℕ) → List Entry → Body
  Link : (path : List ℕ) → Body

-- a file, folder or link, under its number
pub record Node : Type 0 where
  pub num : ℕ
  pub body : Body

-- `next` is the number of the next node that is made: numbers are not used again. Node 0 is the topmost folder.
pub record Fs : Type 0 where
  pub next : ℕ
  pub nodes : List Node

abbrev pub blank : Fs
blank = record { next = 1; nodes = record { num = 0; body = Folder 0 [] } ∷ [] }

unfoldable pub some : {A : Type 0} → (A → Bool) → List A → Bool
some f [] = false
some f (x ∷ xs) = f x || some f xs

unfoldable pub every : {A : Type 0} → (A → Bool) → List A → Bool
every f [] = true
every f (x ∷ xs) = f x && every f xs

unfoldable pub keep : {A : Type 0} → (A → Bool) → List A → List A
keep f [] = []
keep f (x ∷ xs) = cond (f x) (x ∷ keep f xs) (keep f xs)

-- NAMES, compared and ordered by their bytes
unfoldable pub same_name : Name → Name → Bool
same_name [] [] = true
same_name [] (y ∷ ys) = false
same_name (x ∷ xs) [] = false
same_name (x ∷ xs) (y ∷ ys) = x == y && same_name xs ys

unfoldable pub less_name : Name → Name → Bool
less_name xs [] = false
less_name [] (y ∷ ys) = true
less_name (x ∷ xs) (y ∷ ys) = nat_lt x y || (x == y && less_name xs ys)

-- NODES. What stands under a number; an empty link where nothing does.
unfoldable pub body_in : ℕ → List Node → Body
body_in n [] = Link []
body_in n (x ∷ xs) = cond (n == x.num) x.body (body_in n xs)

abbrev pub body_at : Fs → ℕ → Body
body_at f n = body_in n f.nodes

unfoldable pub put_body : ℕ → Body → List Node → List Node
put_body n b [] = []
put_body n b (x ∷ xs) = cond (n == x.num) (record { num = n; body = b } ∷ xs) (x ∷ put_body n b xs)

-- node n has another body
abbrev pub with_body : ℕ → Body → Fs → Fs
with_body n b f = record { next = f.next; nodes = put_body n b f.nodes }

-- one node more, under the next number
abbrev pub with_node : Body → Fs → Fs
with_node b f = record { next = f.next + 1; nodes = f.nodes ++ (record { num = f.next; body = b } ∷ []) }

unfoldable pub entries_of : Body → List Entry
entries_of (File bs) = []
entries_of (Folder u es) = es
entries_of (Link p) = []

unfoldable pub is_folder : Body → Bool
is_folder (File bs) = false
is_folder (Folder u es) = true
is_folder (Link p) = false

unfoldable pub is_file : Body → Bool
is_file (File bs) = true
is_file (Folder u es) = false
is_file (Link p) = false

unfoldable pub is_link : Body → Bool
is_link (File bs) = false
is_link (Folder u es) = false
is_link (Link p) = true

-- the bytes of a file, or of a link's path
unfoldable pub bytes_of : Body → List ℕ
bytes_of (File bs) = bs
bytes_of (Folder u es) = []
bytes_of (Link p) = p

unfoldable pub parent_of : Body → ℕ
parent_of (File bs) = 0
parent_of (Folder u es) = u
parent_of (Link p) = 0

-- ENTRIES. The node of a name, as a list of at most one.
unfoldable pub lookup : Name → List Entry → List ℕ
lookup n [] = []
lookup n (e ∷ es) = cond (same_name n e.name) (e.node ∷ []) (lookup n es)

unfoldable pub insert_entry : Name → ℕ → List Entry → List Entry
insert_entry n k [] = record { name = n; node = k } ∷ []
insert_entry n k (e ∷ es) = cond (same_name n e.name) (record { name = n; node = k } ∷ es) (cond (less_name n e.name) (record { name = n; node = k } ∷ e ∷ es) (e ∷ insert_entry n k es))

abbrev pub remove_entry : Name → List Entry → List Entry
remove_entry n es = keep (λ (e : Entry). not (same_name n e.name)) es

-- in folder d, the name n stands for node k; n stands for nothing
abbrev pub with_entry : ℕ → Name → ℕ → Fs → Fs
with_entry d n k f = with_body d (Folder (parent_of (body_at f d)) (insert_entry n k (entries_of (body_at f d)))) f

abbrev pub without_entry : ℕ → Name → Fs → Fs
without_entry d n f = with_body d (Folder (parent_of (body_at f d)) (remove_entry n (entries_of (body_at f d)))) f

-- node k, if it is a folder, is in folder d from now on
abbrev pub reparented : ℕ → ℕ → Fs → Fs
reparented k d f = cond (is_folder (body_at f k)) (with_body k (Folder d (entries_of (body_at f k))) f) f

-- how many names a node has
unfoldable pub count_entries : ℕ → List Entry → ℕ
count_entries k [] = 0
count_entries k (e ∷ es) = cond (k == e.node) (1 + count_entries k es) (count_entries k es)

unfoldable pub count_names : ℕ → List Node → ℕ
count_names k [] = 0
count_names k (x ∷ xs) = count_entries k (entries_of x.body) + count_names k xs

abbrev pub name_count : Fs → ℕ → ℕ
name_count f k = count_names k f.nodes

-- a node without a name is there only as long as somebody has it open
abbrev pub swept : (ℕ → Bool) → Fs → Fs
swept is_open f = record { next = f.next; nodes = keep (λ (x : Node). (x.num == 0) || nat_lt 0 (name_count f x.num) || is_open x.num) f.nodes }

-- Is a the folder b, or above it? The first number bounds the steps up.
unfoldable pub is_above : ℕ → Fs → ℕ → ℕ → Bool
is_above zero f a b = a == b
is_above (suc n) f a b = a == b || (not (b == 0) && is_above n f a (parent_of (body_at f b)))

-- WEIGHT: whole blocks of 4,096 for the bytes of each file and link; 512 for each node, and 64 and its bytes for each name.
abbrev pub blocks : ℕ → ℕ
blocks n = (n + 4095) / 4096

unfoldable pub entries_weight : List Entry → ℕ
entries_weight [] = 0
entries_weight (e ∷ es) = 64 + length e.name + entries_weight es

unfoldable pub data_weight : List Node → ℕ
data_weight [] = 0
data_weight (x ∷ xs) = 4096 * blocks (length (bytes_of x.body)) + data_weight xs

unfoldable pub name_weight : List Node → ℕ
name_weight [] = 0
name_weight (x ∷ xs) = 512 + entries_weight (entries_of x.body) + name_weight xs

abbrev pub weight : Fs → ℕ
weight f = data_weight f.nodes + name_weight f.nodes
