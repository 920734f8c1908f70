-- Words that are put into a line are cut out of it again. Assumes nothing.
use Rattle.std.proofs.Common.{◌≡◌, ℕ, ◌-◌, ◌^◌, ◌<◌, ◌≤◌, Bool, true, ◌&&◌, eqb, leb, List, [], ◌∷◌, ◌++◌, map, length, get_or, take, drop, Ok, decimal, sym, refl, ap, ◌∙◌, ⊎_elim, append_assoc, append-nil, arith}
use Rattle.std.specs.Int.{is_in_range}
use Rattle.std.specs.List.{AllByRecursion}
use Rattle.std.proofs.ByRecursion.{All-append, All-weaker, All-get_or}
use Rattle.std.proofs.lemmas.List.{get_or_past}
use Rattle.std.proofs.lemmas.Bool.{ne_eqb, cond-false, cases_lt, and_parts, leb-true}
use Rattle.lines.specs.Numbers.{number_of}
use Rattle.lines.specs.Words.{without_return, ended, cut, words_of}
use Rattle.lines.specs.Arguments.{Word}
use Rattle.lines.specs.Lines.{spaced, IsWord, Says}
use Rattle.lines.proofs.Roundtrips.{number_word, number-back}

solid : (w rest acc : List ℕ) → AllByRecursion (λ b. (33 ≤ b) × (b ≤ 126)) w → cut (w ++ rest) acc ≡ cut rest (acc ++ w)
solid [] rest acc h = ap (cut rest) (sym (append-nil acc))
solid (b ∷ w) rest acc h =
    let low = h.0.0 in
    let ne : b ≡ 32 → ⊥ = λ e. absurd (omega arith) in
    cond-false (eqb b 32) (ended acc ++ cut (w ++ rest) []) (cut (w ++ rest) (acc ++ (b ∷ []))) (ne_eqb b 32 ne) ∙ solid w rest (acc ++ (b ∷ [])) h.1 ∙ ap (cut rest) (append_assoc acc (b ∷ []) w)

ended-word : (w : List ℕ) → 0 < length w → ended w ≡ w ∷ []
ended-word [] h = absurd (omega arith)
ended-word (b ∷ bs) h = refl

cut-spaced : (w : Word) (ws : List Word) → IsWord w → AllByRecursion IsWord ws → cut (spaced w ws) [] ≡ w ∷ ws
cut-spaced w [] h hs = ap (λ t. cut t []) (sym (append-nil w)) ∙ solid w [] [] h.1 ∙ ended-word w h.0
cut-spaced w (v ∷ ws) h hs = solid w (32 ∷ spaced v ws) [] h.1 ∙ (λ i. ended-word w h.0 i ++ cut-spaced v ws hs.0 hs.1 i)

-- no carriage return stands in it
spaced-all : (w : Word) (ws : List Word) → IsWord w → AllByRecursion IsWord ws → AllByRecursion (λ b. 32 ≤ b) (spaced w ws)
spaced-all w [] h hs = All-weaker (λ b. (33 ≤ b) × (b ≤ 126)) (λ b. 32 ≤ b) (λ b p. let q = p.0 in omega arith) w h.1
spaced-all w (v ∷ ws) h hs = All-append (λ b. 32 ≤ b) w (32 ∷ spaced v ws) (All-weaker (λ b. (33 ≤ b) × (b ≤ 126)) (λ b. 32 ≤ b) (λ b p. let q = p.0 in omega arith) w h.1) (omega arith, spaced-all v ws hs.0 hs.1)

no_return : (xs : List ℕ) → AllByRecursion (λ b. 32 ≤ b) xs → without_return xs ≡ xs
no_return xs h = cond-false (eqb (get_or xs (length xs - 1) 0) 13) (take (length xs - 1) xs) xs (ne_eqb (get_or xs (length xs - 1) 0) 13 other)
  where
    other : get_or xs (length xs - 1) 0 ≡ 13 → ⊥
    other e =
        ⊎_elim
        (λ l. let g = All-get_or (λ b. 32 ≤ b) xs (length xs - 1) 0 l h in absurd (omega arith))
        (λ l. let g = get_or_past xs (length xs - 1) 0 l in absurd (omega arith))
        (cases_lt (length xs - 1) (length xs))

pub words_back : (w : Word) (ws : List Word) → IsWord w → AllByRecursion IsWord ws → words_of (spaced w ws) ≡ w ∷ ws
words_back w ws h hs = ap (λ t. cut t []) (no_return (spaced w ws) (spaced-all w ws h hs)) ∙ cut-spaced w ws h hs

-- a word whose bytes are known
abbrev shown : List ℕ → Bool
shown [] = true
shown (b ∷ bs) = is_in_range 33 126 b && shown bs

pub shown-all : (w : List ℕ) → shown w ≡ true → AllByRecursion (λ b. (33 ≤ b) × (b ≤ 126)) w
shown-all [] e = tt
shown-all (b ∷ bs) e =
    let p = and_parts (is_in_range 33 126 b) (shown bs) e in
    let q = and_parts (leb 33 b) (leb b 126) p.0 in
    ((leb-true 33 b q.0, leb-true b 126 q.1), shown-all bs p.1)

-- a word and numbers after it
numbers-words : (ns : List ℕ) → AllByRecursion (λ n. n < 2 ^ 64) ns → AllByRecursion IsWord (map decimal ns)
numbers-words [] h = tt
numbers-words (n ∷ ns) h = (number_word n h.0, numbers-words ns h.1)

numbers-back : (ns : List ℕ) → AllByRecursion (λ n. n < 2 ^ 64) ns → map number_of (map decimal ns) ≡ map Ok ns
numbers-back [] h = refl
numbers-back (n ∷ ns) h = λ i. number-back n h.0 i ∷ numbers-back ns h.1 i

pub says : (first : Word) (ns text : List ℕ) → IsWord first → AllByRecursion (λ n. n < 2 ^ 64) ns → text ≡ spaced first (map decimal ns) → Says text first ns
says first ns text w h e =
    let ws = ap words_of e ∙ words_back first (map decimal ns) w (numbers-words ns h) in
    (ap (λ us. get_or us 0 []) ws, ap (λ us. map number_of (drop 1 us)) ws ∙ numbers-back ns h)
