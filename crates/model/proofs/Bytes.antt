-- What is written is read, and all else of the file stays.
-- Assumes nothing.
use Rattle.std.proofs.Common.{◌≡◌, ℕ, zero, suc, ◌+◌, ◌-◌, ◌<◌, List, [], ◌∷◌, ◌++◌, length, get_or, take, drop, replicate, sym, refl, ap, ◌∙◌, inl, inr, arith}
use Rattle.std.proofs.lemmas.List.{length-append, length-take, length-drop, length-replicate, get_or_append_left, get_or-append_right, get_or-take, get_or-drop, get_or_past, take_at, drop_at}
use Rattle.std.proofs.lemmas.Bool.{cases_lt}
use Rattle.model.specs.Calls.{resized, written}
use Rattle.model.specs.Laws.{length_after, ReadsWritten}

pub length-resized : (n : ℕ) (bs : List ℕ) → length (resized n bs) ≡ n
length-resized n bs = omega (arith, length-append (take n bs) (replicate (n - length bs) 0), length-take n bs, length-replicate {A = ℕ} (n - length bs) 0)

get_or-zeros : (n i : ℕ) → get_or {A = ℕ} (replicate n 0) i 0 ≡ 0
get_or-zeros zero i = refl
get_or-zeros (suc n) zero = refl
get_or-zeros (suc n) (suc i) = get_or-zeros n i

pub get_or-resized : (n : ℕ) (bs : List ℕ) (i : ℕ) → i < n → get_or (resized n bs) i 0 ≡ get_or bs i 0
get_or-resized n bs i h =
    let l = length-take n bs in
    elim (cases_lt i (length (take n bs))) [
      | inl k ↦ get_or_append_left (take n bs) (replicate (n - length bs) 0) 0 i k ∙ get_or-take n bs i 0 h
      | inr k ↦ get_or-append_right (take n bs) (replicate (n - length bs) 0) (length (take n bs)) i 0 refl k ∙ (get_or-zeros (n - length bs) (i - length (take n bs)) ∙ sym (get_or_past bs i 0 (omega arith)))
    ]

pub reads_written_lem : ReadsWritten
unfolding written length_after
reads_written_lem from [] old = record { long = refl; inside = λ i h. absurd (omega arith); before = λ i h. refl; after = λ i h. refl }
reads_written_lem from (b ∷ bs) old =
    let n = length-resized from old in
    let rest = drop (from + length (b ∷ bs)) old in
    let r = length-drop (from + length (b ∷ bs)) old in
    record {
      long = omega (arith, length-append (resized from old) ((b ∷ bs) ++ rest), length-append (b ∷ bs) rest);
      inside = λ i h. let e : from + i - from ≡ i = omega arith in get_or-append_right (resized from old) ((b ∷ bs) ++ rest) from (from + i) 0 n (omega arith) ∙ (ap (λ j. get_or ((b ∷ bs) ++ rest) j 0) e ∙ get_or_append_left (b ∷ bs) rest 0 i h);
      before = λ i h. get_or_append_left (resized from old) ((b ∷ bs) ++ rest) 0 i (omega arith) ∙ get_or-resized from old i h;
      after = λ i h.
          let m = length (b ∷ bs) in
          let e : from + m + (i - from - m) ≡ i = omega arith in
          get_or-append_right (resized from old) ((b ∷ bs) ++ rest) from i 0 n (omega arith) ∙ (get_or-append_right (b ∷ bs) rest m (i - from) 0 refl (omega arith) ∙ (get_or-drop (from + m) old (i - from - m) 0 ∙ ap (λ j. get_or old j 0) e));
    }

-- so many bytes from that place on
pub reads-back : (from : ℕ) (new old : List ℕ) → take (length new) (drop from (written from new old)) ≡ new
unfolding written
reads-back from [] old = refl
reads-back from (b ∷ bs) old =
    let rest = drop (from + length (b ∷ bs)) old in
    ap (take (length (b ∷ bs))) (drop_at (resized from old) ((b ∷ bs) ++ rest) from (length-resized from old)) ∙ take_at (b ∷ bs) rest (length (b ∷ bs)) refl
