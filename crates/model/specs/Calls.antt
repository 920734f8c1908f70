-- What each call does: what it answers, and what it leaves. Refusals go by number.
-- Assumes nothing.
use Rattle.std.specs.Prelude.{ℕ, zero, suc, ◌+◌, ◌-◌, Bool, true, false, cond, not, ◌&&◌, ◌||◌, ltb, List, [], ◌∷◌, ◌++◌, length, take, drop, replicate, ◌==◌, nat_eq, nat_le, nat_lt}
use Rattle.model.specs.Tree.{Name, Entry, Body, File, Folder, Link, Fs, some, every, keep, same_name, less_name, body_at, with_body, with_node, entries_of, is_folder, is_file, is_link, bytes_of, with_entry, without_entry, reparented, name_count, swept, is_above}
use Rattle.model.specs.Walk.{Place, Wrong, There, Missing, place, path_ok, target_of, dot, dot_dot, components}

-- a file or folder that somebody has open, under the handle's number
pub record Handle : Type 0 where
  pub num : ℕ
  pub node : ℕ
  pub writes : Bool

-- how a file is opened: it must be there, it may be made, it must be new
pub data Way : Type 0 where
  Old May New : Way

pub data Call : Type 0 where
  Open : Way → (writes : Bool) → (path : List ℕ) → Call
  Close : (h : ℕ) → Call
  Read : (h from most : ℕ) → Call
  Write : (h from : ℕ) → List ℕ → Call
  Resize : (h size : ℕ) → Call
  Stat : (path : List ℕ) → Call
  StatOpen : (h : ℕ) → Call
  MakeFolder Remove RemoveFolder : (path : List ℕ) → Call
  -- the name of an open folder that comes next after a given one; after the empty one, the first
  NextName : (h : ℕ) → Name → Call
  Rename : (old new : List ℕ) → Call
  -- a further name for a file or link
  Join : (old new : List ℕ) → Call
  MakeLink : (to path : List ℕ) → Call
  ReadLink : (path : List ℕ) → Call
  Sync : Call

pub data Kind : Type 0 where
  AFile AFolder ALink : Kind

pub data Reply : Type 0 where
  -- refused, by a number
  No : ℕ → Reply
  Done : Reply
  Opened : (h : ℕ) → Reply
  Bytes : List ℕ → Reply
  -- the node's kind and number, its size in bytes or entries, how many names it has
  Told : Kind → (num size names : ℕ) → Reply
  Named : Name → Reply
  -- no room: nothing was changed
  Full : Reply

-- The tree now; what is open; and `could`: the trees that a power cut may leave, the latest first, the last as it was at the last sync.
pub record State : Type 0 where
  pub now : Fs
  pub handles : List Handle
  pub could : List Fs

abbrev pub fresh : Fs → State
fresh f = record { now = f; handles = []; could = f ∷ [] }

pub record Out : Type 0 where
  pub reply : Reply
  pub state : State

-- a refusal changes nothing, nor does what only tells
abbrev pub refused : ℕ → State → Out
refused k s = record { reply = No k; state = s }

abbrev pub replied : Reply → State → Out
replied r s = record { reply = r; state = s }

abbrev pub is_open : List Handle → ℕ → Bool
is_open hs n = some (λ (h : Handle). nat_eq h.node n) hs

-- the tree becomes f, without the nodes that have neither a name nor a handle
abbrev pub becomes : Fs → List Handle → State → State
becomes f hs s = record { now = swept (is_open hs) f; handles = hs; could = swept (is_open hs) f ∷ s.could }

abbrev pub done_with : Fs → State → Out
done_with f s = record { reply = Done; state = becomes f s.handles s }

-- the handle of a number, as a list of at most one
unfoldable pub handle_of : ℕ → List Handle → List Handle
handle_of n [] = []
handle_of n (h ∷ hs) = cond (n == h.num) (h ∷ []) (handle_of n hs)

-- the lowest number from n on that no handle has; the first number bounds the tries
unfoldable pub lowest_free : ℕ → ℕ → List Handle → ℕ
lowest_free zero n hs = n
lowest_free (suc fuel) n hs = cond (some (λ (h : Handle). nat_eq n h.num) hs) (lowest_free fuel (suc n) hs) n

abbrev pub give_handle : ℕ → Bool → Fs → State → Out
give_handle n w f s =
    record { reply = Opened (lowest_free 64 0 s.handles); state = becomes f (record { num = lowest_free 64 0 s.handles; node = n; writes = w } ∷ s.handles) s }

-- BYTES of a file: cut, or longer with zeros; and bytes written over a place, with zeros between the old end and that place. Writing no bytes changes nothing.
abbrev pub resized : ℕ → List ℕ → List ℕ
resized n bs = take n bs ++ replicate (n - length bs) 0

unfoldable pub written : ℕ → List ℕ → List ℕ → List ℕ
written from [] old = old
written from (b ∷ bs) old = resized from old ++ ((b ∷ bs) ++ drop (from + length (b ∷ bs)) old)

abbrev pub bytes_ok : List ℕ → Bool
bytes_ok bs = every (λ (b : ℕ). ltb b 256) bs

-- 2 to the 32 bytes
abbrev pub max_file_size : ℕ
max_file_size = 4294967296

unfoldable pub is_empty : {A : Type 0} → List A → Bool
is_empty [] = true
is_empty (x ∷ xs) = false

-- EACH CALL, on what its path or handle came to.
unfoldable pub opens : Way → Bool → Place → State → Out
opens way w (Wrong k) s = refused k s
opens Old w (Missing d n) s = refused 2 s
opens May w (Missing d n) s = give_handle s.now.next w (with_entry d n s.now.next (with_node (File []) s.now)) s
opens New w (Missing d n) s = give_handle s.now.next w (with_entry d n s.now.next (with_node (File []) s.now)) s
opens Old w (There d n k) s = cond (is_folder (body_at s.now k) && w) (refused 4 s) (give_handle k w s.now s)
opens May w (There d n k) s = cond (is_folder (body_at s.now k)) (refused 4 s) (give_handle k w s.now s)
opens New w (There d n k) s = refused 5 s

unfoldable pub closes : List Handle → State → Out
closes [] s = refused 8 s
closes (h ∷ more) s = record { reply = Done; state = becomes s.now (keep (λ (x : Handle). not (x.num == h.num)) s.handles) s }

unfoldable pub reads : ℕ → ℕ → List Handle → State → Out
reads from most [] s = refused 8 s
reads from most (h ∷ more) s = cond (is_file (body_at s.now h.node)) (replied (Bytes (take most (drop from (bytes_of (body_at s.now h.node))))) s) (refused 4 s)

unfoldable pub writes : ℕ → List ℕ → List Handle → State → Out
writes from bs [] s = refused 8 s
writes from bs (h ∷ more) s = cond h.writes (cond (nat_le (from + length bs) max_file_size) (done_with (with_body h.node (File (written from bs (bytes_of (body_at s.now h.node)))) s.now) s) (refused 10 s)) (refused 9 s)

unfoldable pub resizes : ℕ → List Handle → State → Out
resizes n [] s = refused 8 s
resizes n (h ∷ more) s = cond h.writes (cond (nat_le n max_file_size) (done_with (with_body h.node (File (resized n (bytes_of (body_at s.now h.node)))) s.now) s) (refused 10 s)) (refused 9 s)

unfoldable pub told_of : Body → ℕ → Fs → Reply
told_of (File bs) k f = Told AFile k (length bs) (name_count f k)
told_of (Folder u es) k f = Told AFolder k (length es) (name_count f k)
told_of (Link p) k f = Told ALink k (length p) (name_count f k)

unfoldable pub stats : Place → State → Out
stats (Wrong k) s = refused k s
stats (Missing d n) s = refused 2 s
stats (There d n k) s = replied (told_of (body_at s.now k) k s.now) s

unfoldable pub stats_open : List Handle → State → Out
stats_open [] s = refused 8 s
stats_open (h ∷ more) s = replied (told_of (body_at s.now h.node) h.node s.now) s

unfoldable pub makes_folder : Place → State → Out
makes_folder (Wrong k) s = refused k s
makes_folder (Missing d n) s = done_with (with_entry d n s.now.next (with_node (Folder d []) s.now)) s
makes_folder (There d n k) s = refused 5 s

unfoldable pub removes : Place → State → Out
removes (Wrong k) s = refused k s
removes (Missing d n) s = refused 2 s
removes (There d n k) s = cond (is_folder (body_at s.now k)) (refused 4 s) (done_with (without_entry d n s.now) s)

-- the path ends in a name, not at the top, not in . or ..
unfoldable pub removes_folder : Place → State → Out
removes_folder (Wrong k) s = refused k s
removes_folder (Missing d n) s = refused 2 s
removes_folder (There d n k) s = cond (is_empty n) (refused 1 s) (cond (not (is_folder (body_at s.now k))) (refused 3 s) (cond (is_empty (entries_of (body_at s.now k))) (done_with (without_entry d n s.now) s) (refused 6 s)))

unfoldable pub next_in : Name → List Entry → Reply
next_in n [] = No 2
next_in n (e ∷ es) = cond (less_name n e.name) (Named e.name) (next_in n es)

unfoldable pub next_names : Name → List Handle → State → Out
next_names n [] s = refused 8 s
next_names n (h ∷ more) s = cond (is_folder (body_at s.now h.node)) (replied (next_in n (entries_of (body_at s.now h.node))) s) (refused 3 s)

-- node k loses its name n in folder d and gets the name m in folder e; what had that name loses it
abbrev pub renamed : ℕ → Name → ℕ → ℕ → Name → Fs → Fs
renamed d n k e m f = reparented k e (with_entry e m k (without_entry d n f))

unfoldable pub renames : Place → Place → State → Out
renames (Wrong k) q s = refused k s
renames (Missing d n) q s = refused 2 s
renames (There d n k) (Wrong j) s = refused j s
renames (There d n k) (Missing e m) s = cond (is_empty n) (refused 1 s) (cond (is_folder (body_at s.now k) && is_above (length s.now.nodes) s.now k e) (refused 11 s) (done_with (renamed d n k e m s.now) s))
renames (There d n k) (There e m j) s =
    cond (is_empty n || is_empty m) (refused 1 s) (cond (k == j) (done_with s.now s)
    (cond (is_folder (body_at s.now k) && is_above (length s.now.nodes) s.now k e) (refused 11 s)
    (cond (is_folder (body_at s.now k) && not (is_folder (body_at s.now j))) (refused 3 s)
    (cond (not (is_folder (body_at s.now k)) && is_folder (body_at s.now j)) (refused 4 s)
    (cond (is_empty (entries_of (body_at s.now j))) (done_with (renamed d n k e m s.now) s) (refused 6 s))))))

unfoldable pub joins : Place → Place → State → Out
joins (Wrong k) q s = refused k s
joins (Missing d n) q s = refused 2 s
joins (There d n k) (Wrong j) s = refused j s
joins (There d n k) (There e m j) s = refused 5 s
joins (There d n k) (Missing e m) s = cond (is_folder (body_at s.now k)) (refused 4 s) (done_with (with_entry e m k s.now) s)

unfoldable pub makes_link : List ℕ → Place → State → Out
makes_link to (Wrong k) s = refused k s
makes_link to (There d n k) s = refused 5 s
makes_link to (Missing d n) s = cond (path_ok to) (done_with (with_entry d n s.now.next (with_node (Link to) s.now)) s) (refused 1 s)

unfoldable pub reads_link : Place → State → Out
reads_link (Wrong k) s = refused k s
reads_link (Missing d n) s = refused 2 s
reads_link (There d n k) s = cond (is_link (body_at s.now k)) (replied (Bytes (target_of (body_at s.now k))) s) (refused 9 s)

-- A path that has no component, or whose last one is . or .., names nothing that can be made, moved or taken away.
unfoldable pub last_component : List Name → Name
last_component [] = []
last_component (p ∷ []) = p
last_component (p ∷ q ∷ ps) = last_component (q ∷ ps)

abbrev pub names_entry : List ℕ → Bool
names_entry p = nat_lt 0 (length (components p [])) && not (same_name (last_component (components p [])) dot || same_name (last_component (components p [])) dot_dot)

-- numbers of nodes have 63 bits
abbrev pub if_numbers_left : State → Out → Out
if_numbers_left s o = cond (nat_le 9223372036854775807 s.now.next) (refused 10 s) o

abbrev pub if_names_entry : List ℕ → State → Out → Out
if_names_entry p s o = cond (names_entry p) o (refused 1 s)

-- a new file never takes the place of a link, wherever that leads
unfoldable pub follows : Way → Bool
follows Old = true
follows May = true
follows New = false

unfoldable pub does : Call → State → Out
does (Open way w p) s = cond (nat_le 64 (length s.handles)) (refused 13 s) (if_numbers_left s (opens way w (place (follows way) s.now p) s))
does (Close h) s = closes (handle_of h s.handles) s
does (Read h from most) s = cond (nat_lt 65536 most) (refused 10 s) (reads from most (handle_of h s.handles) s)
does (Write h from bs) s = cond (nat_lt 65536 (length bs) || not (bytes_ok bs)) (refused 10 s) (writes from bs (handle_of h s.handles) s)
does (Resize h n) s = resizes n (handle_of h s.handles) s
does (Stat p) s = stats (place false s.now p) s
does (StatOpen h) s = stats_open (handle_of h s.handles) s
does (MakeFolder p) s = if_names_entry p s (if_numbers_left s (makes_folder (place false s.now p) s))
does (Remove p) s = if_names_entry p s (removes (place false s.now p) s)
does (RemoveFolder p) s = if_names_entry p s (removes_folder (place false s.now p) s)
does (NextName h n) s = cond (nat_lt 255 (length n)) (refused 10 s) (next_names n (handle_of h s.handles) s)
does (Rename p q) s = if_names_entry p s (if_names_entry q s (renames (place false s.now p) (place false s.now q) s))
does (Join p q) s = if_names_entry q s (joins (place false s.now p) (place false s.now q) s)
does (MakeLink to p) s = if_names_entry p s (if_numbers_left s (makes_link to (place false s.now p) s))
does (ReadLink p) s = reads_link (place false s.now p) s
does Sync s = record { reply = Done; state = record { now = s.now; handles = s.handles; could = s.now ∷ [] } }
