-- The folders passed on a walk, kept as a stack: the chain of parents. So .. and "is above" are read off that stack, and no folder's parent has to be looked up.
-- Assumes nothing.
use Rattle.std.specs.Prelude.{◌≡◌, ℕ, zero, suc, ◌≤◌, Bool, cond, not, ◌&&◌, ◌||◌, T, ◌⊎◌, List, [], ◌∷◌, ◌++◌, length, ◌==◌, ◌≢◌, nat_eq}
use Rattle.model.specs.Tree.{Name, Fs, some, body_at, same_name, is_folder, is_link, entries_of, lookup, parent_of, name_count, is_above}
use Rattle.model.specs.Walk.{Place, Wrong, There, Missing, Going, On, Came, components, dot, dot_dot, path_ok, target_of, at_end, step, place}
use Rattle.model.specs.Sound.{Sound}

-- The folder d, its parent, and so on up to the topmost, which is not in the list; each is a folder that has a name.
abbrev pub Chain : Fs → ℕ → List ℕ → Type 0
Chain f d [] = d ≡ 0
Chain f d (u ∷ us) = (u ≡ d) × (d ≢ 0) × T (is_folder (body_at f d)) × (1 ≤ name_count f d) × Chain f (parent_of (body_at f d)) us

-- the folder that a stack ends in, and the stack of its parent
abbrev pub here : List ℕ → ℕ
here [] = 0
here (u ∷ us) = u

abbrev pub popped : List ℕ → List ℕ
popped [] = []
popped (u ∷ us) = us

abbrev pub on_stack : ℕ → List ℕ → Bool
on_stack a us = a == 0 || some (λ (u : ℕ). nat_eq a u) us

-- THE WALK with a stack in place of the folder that it is in; at its end, the stack of the folder in which the node or the missing name is.
pub data Passing : Type 0 where
  Along : (links : ℕ) → (stack : List ℕ) → List Name → Passing
  Ended : Place → (stack : List ℕ) → Passing

unfoldable pub start_stack : List ℕ → List ℕ → List ℕ
start_stack [] us = us
start_stack (b ∷ bs) us = cond (b == 47) [] us

unfoldable pub stack_by_link : ℕ → List ℕ → List ℕ → List Name → Passing
stack_by_link zero p us ps = Ended (Wrong 7) us
stack_by_link (suc k) p us ps = Along k (start_stack p us) (components p [] ++ ps)

abbrev pub stack_by_name : ℕ → Fs → List ℕ → Name → ℕ → List Name → Passing
stack_by_name links f us p n ps = cond (at_end ps) (Ended (There (here us) p n) us) (cond (is_folder (body_at f n)) (Along links (n ∷ us) ps) (Ended (Wrong 3) us))

unfoldable pub stack_by_entry : ℕ → Bool → Fs → List ℕ → Name → List ℕ → List Name → Passing
stack_by_entry links follow f us p [] ps = cond (at_end ps) (Ended (Missing (here us) p) us) (Ended (Wrong 2) us)
stack_by_entry links follow f us p (n ∷ more) ps = cond (is_link (body_at f n) && (follow || not (at_end ps))) (stack_by_link links (target_of (body_at f n)) us ps) (stack_by_name links f us p n ps)

unfoldable pub stack_step : Bool → Fs → Passing → Passing
stack_step follow f (Ended w us) = Ended w us
stack_step follow f (Along links us []) = Ended (There (here (popped us)) [] (here us)) (popped us)
stack_step follow f (Along links us (p ∷ ps)) =
    cond (same_name p dot) (Along links us ps) (cond (same_name p dot_dot) (Along links (popped us) ps) (stack_by_entry links follow f us p (lookup p (entries_of (body_at f (here us)))) ps))

unfoldable pub stack_steps : ℕ → Bool → Fs → Passing → Passing
stack_steps zero follow f t = t
stack_steps (suc n) follow f t = stack_steps n follow f (stack_step follow f t)

unfoldable pub end_place : Passing → Place
end_place (Ended w us) = w
end_place (Along links us ps) = Wrong 7

unfoldable pub end_stack : Passing → List ℕ
end_stack (Ended w us) = us
end_stack (Along links us ps) = us

abbrev pub stack_walk : Bool → Fs → List ℕ → Passing
stack_walk follow f p = cond (path_ok p) (stack_steps 8192 follow f (Along 8 [] (components p []))) (Ended (Wrong 1) [])

-- without the stack
unfoldable pub going : Passing → Going
going (Along links us ps) = On links (here us) ps
going (Ended w us) = Came w

-- the stack is the chain of parents
unfoldable pub EndsIn : Fs → Place → List ℕ → Type 0
EndsIn f (Wrong k) us = Unit {0}
EndsIn f (There d p n) us = Chain f d us
EndsIn f (Missing d p) us = Chain f d us

unfoldable pub RightStack : Fs → Passing → Type 0
RightStack f (Along links us ps) = Chain f (here us) us
RightStack f (Ended w us) = EndsIn f w us

-- THE LAWS. Each step of the one walk is the step of the other, and keeps the stack right.
abbrev pub StackSteps : Type 0
StackSteps = (f : Fs) (follow : Bool) → Sound f → (t : Passing) → RightStack f t → (going (stack_step follow f t) ≡ step follow f (going t)) × RightStack f (stack_step follow f t)

-- so it comes to the same place, with that folder's chain of parents
abbrev pub StackComes : Type 0
StackComes = (f : Fs) (follow : Bool) (p : List ℕ) → Sound f → (end_place (stack_walk follow f p) ≡ place follow f p) × EndsIn f (place follow f p) (end_stack (stack_walk follow f p))

-- the stack never has more than 4,608 folders
abbrev pub StackFits : Type 0
StackFits = (f : Fs) (follow : Bool) (p : List ℕ) (n : ℕ) → Sound f → T (path_ok p) → length (end_stack (stack_steps n follow f (Along 8 [] (components p [])))) ≤ 4608

-- what is above a folder is on its chain
abbrev pub ChainAbove : Type 0
ChainAbove = (f : Fs) → Sound f → (a d : ℕ) (us : List ℕ) → Chain f d us → is_above (length f.nodes) f a d ≡ on_stack a us

-- each folder that has a name has a chain, and only one
abbrev pub ChainOnce : Type 0
ChainOnce = (f : Fs) → Sound f → (d : ℕ) → T (is_folder (body_at f d)) → (d ≡ 0) ⊎ (1 ≤ name_count f d) → (us : List ℕ) × Chain f d us × ((vs : List ℕ) → Chain f d vs → vs ≡ us)
