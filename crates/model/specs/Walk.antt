-- Paths: bytes cut at strokes, and where they lead.
-- Assumes nothing.
use Rattle.std.specs.Prelude.{ℕ, zero, suc, Bool, true, false, cond, not, ◌&&◌, ◌||◌, leb, List, [], ◌∷◌, ◌++◌, length, ◌==◌, nat_le, nat_lt}
use Rattle.model.specs.Tree.{Name, Fs, Body, File, Folder, Link, body_at, same_name, is_folder, is_link, entries_of, lookup, parent_of, every}

-- What a path comes to: a refusal by its number; a node, with the folder and the name that it was found under (empty at the top); or a name that is missing in a folder that is there.
pub data Place : Type 0 where
  Wrong : ℕ → Place
  There : (folder : ℕ) → Name → (node : ℕ) → Place
  Missing : (folder : ℕ) → Name → Place

-- The components of a path: cut at strokes (47); strokes beside each other, at the beginning and at the end part nothing. The second list is the component so far.
unfoldable pub components : List ℕ → Name → List Name
components [] [] = []
components [] (x ∷ xs) = (x ∷ xs) ∷ []
components (b ∷ bs) [] = cond (b == 47) (components bs []) (components bs (b ∷ []))
components (b ∷ bs) (x ∷ xs) = cond (b == 47) ((x ∷ xs) ∷ components bs []) (components bs ((x ∷ xs) ++ (b ∷ [])))

-- . and ..
abbrev pub dot : Name
dot = 46 ∷ []

abbrev pub dot_dot : Name
dot_dot = 46 ∷ 46 ∷ []

unfoldable pub components_fit : List Name → Bool
components_fit ps = every (λ (p : Name). leb (length p) 255) ps

-- 1 to 1,024 bytes, none of them 0, with components of at most 255
abbrev pub path_ok : List ℕ → Bool
path_ok p = nat_lt 0 (length p) && nat_le (length p) 1024 && every (λ (b : ℕ). nat_lt 0 b && nat_lt b 256) p && components_fit (components p [])

-- the path that a link holds
unfoldable pub target_of : Body → List ℕ
target_of (File bs) = []
target_of (Folder u es) = []
target_of (Link p) = p

-- a path that begins with a stroke starts at the top, else where it is met
unfoldable pub start_of : List ℕ → ℕ → ℕ
start_of [] d = d
start_of (b ∷ bs) d = cond (b == 47) 0 d

unfoldable pub at_end : List Name → Bool
at_end [] = true
at_end (p ∷ ps) = false

-- A walk under way: so many links may still be followed, the folder it is in, and the components that are left; or the place that it came to.
pub data Going : Type 0 where
  On : (links folder : ℕ) → List Name → Going
  Came : Place → Going

-- the ninth link is refused by 7
unfoldable pub by_link : ℕ → List ℕ → ℕ → List Name → Going
by_link zero p d ps = Came (Wrong 7)
by_link (suc k) p d ps = On k (start_of p d) (components p [] ++ ps)

abbrev pub by_name : ℕ → Fs → ℕ → Name → ℕ → List Name → Going
by_name links f d p n ps = cond (at_end ps) (Came (There d p n)) (cond (is_folder (body_at f n)) (On links n ps) (Came (Wrong 3)))

unfoldable pub by_entry : ℕ → Bool → Fs → ℕ → Name → List ℕ → List Name → Going
by_entry links follow f d p [] ps = cond (at_end ps) (Came (Missing d p)) (Came (Wrong 2))
by_entry links follow f d p (n ∷ more) ps = cond (is_link (body_at f n) && (follow || not (at_end ps))) (by_link links (target_of (body_at f n)) d ps) (by_name links f d p n ps)

-- one component: . stays, .. goes to the parent, any other to what has that name
unfoldable pub step : Bool → Fs → Going → Going
step follow f (Came w) = Came w
step follow f (On links d []) = Came (There (parent_of (body_at f d)) [] d)
step follow f (On links d (p ∷ ps)) =
    cond (same_name p dot) (On links d ps) (cond (same_name p dot_dot) (On links (parent_of (body_at f d)) ps) (by_entry links follow f d p (lookup p (entries_of (body_at f d))) ps))

unfoldable pub came : Going → Place
came (Came w) = w
came (On links d ps) = Wrong 7

unfoldable pub steps : ℕ → Bool → Fs → Going → Going
steps zero follow f g = g
steps (suc n) follow f g = steps n follow f (step follow f g)

-- Where a path comes to. `follow`: a link at the very end is followed too. At most 8 links are followed, of 1,024 bytes each, so the steps suffice.
abbrev pub place : Bool → Fs → List ℕ → Place
place follow f p = cond (path_ok p) (came (steps 8192 follow f (On 8 0 (components p [])))) (Wrong 1)
