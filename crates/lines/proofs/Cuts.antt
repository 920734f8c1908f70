-- A line cut into words. Assumes nothing.
use Rattle.std.proofs.Common.{◌≡◌, ℕ, ◌+◌, ◌-◌, ◌<◌, ◌≤◌, eqb, List, [], ◌∷◌, ◌++◌, length, get_or, take, drop, sym, ap, ◌∙◌, append_assoc, arith}
use Rattle.std.proofs.lemmas.Bool.{eq-eqb, ne_eqb, cond-true, cond-false}
use Rattle.std.proofs.lemmas.List.{at_drop_more, at_drop_all}
use Rattle.std.proofs.lemmas.List.Edits.{between_more}
use Rattle.lines.specs.Words.{without_return, ended, cut, words_of}

-- one byte of the loop, a space or not
cut-space : (xs : List ℕ) (i : ℕ) (word : List ℕ) → i < length xs → get_or xs i 0 ≡ 32 → cut (drop i xs) word ≡ ended word ++ cut (drop (i + 1) xs) []
cut-space xs i word h e =
    at_drop_more (λ t. cut t word) xs i 0 h ∙ cond-true (eqb (get_or xs i 0) 32) (ended word ++ cut (drop (i + 1) xs) []) (cut (drop (i + 1) xs) (word ++ (get_or xs i 0 ∷ []))) (eq-eqb (get_or xs i 0) 32 e)

cut-solid : (xs : List ℕ) (i : ℕ) (word : List ℕ) → i < length xs → (get_or xs i 0 ≡ 32 → ⊥) → cut (drop i xs) word ≡ cut (drop (i + 1) xs) (word ++ (get_or xs i 0 ∷ []))
cut-solid xs i word h e =
    at_drop_more (λ t. cut t word) xs i 0 h ∙ cond-false (eqb (get_or xs i 0) 32) (ended word ++ cut (drop (i + 1) xs) []) (cut (drop (i + 1) xs) (word ++ (get_or xs i 0 ∷ []))) (ne_eqb (get_or xs i 0) 32 e)

cut-end : (xs : List ℕ) (i : ℕ) (word : List ℕ) → length xs ≤ i → cut (drop i xs) word ≡ ended word
cut-end xs i word h = at_drop_all (λ t. cut t word) xs i h

-- THE LOOP: `done` are the words that ended so far, and the one being seen began at s
pub space-turn : (done more : List (List ℕ)) (xs : List ℕ) (s i t : ℕ) (whole : List (List ℕ)) → i < length xs → get_or xs i 0 ≡ 32 → t ≡ i + 1 → more ≡ done ++ ended (take (i - s) (drop s xs)) → done ++ cut (drop i xs) (take (i - s) (drop s xs)) ≡ whole → more ++ cut (drop (i + 1) xs) (take (i + 1 - t) (drop t xs)) ≡ whole
space-turn done more xs s i t whole h e q m inv =
    let z : i + 1 - t ≡ 0 = omega arith in
    let word = take (i - s) (drop s xs) in
    ap (λ n. more ++ cut (drop (i + 1) xs) (take n (drop t xs))) z ∙ ap (λ ws. ws ++ cut (drop (i + 1) xs) []) m ∙ append_assoc done (ended word) (cut (drop (i + 1) xs) []) ∙ ap (λ ws. done ++ ws) (sym (cut-space xs i word h e)) ∙ inv

pub solid-turn : (done : List (List ℕ)) (xs : List ℕ) (s i t : ℕ) (whole : List (List ℕ)) → s ≤ i → i < length xs → (get_or xs i 0 ≡ 32 → ⊥) → t ≡ s → done ++ cut (drop i xs) (take (i - s) (drop s xs)) ≡ whole → done ++ cut (drop (i + 1) xs) (take (i + 1 - t) (drop t xs)) ≡ whole
solid-turn done xs s i t whole le h e q inv =
    ap (λ n. done ++ cut (drop (i + 1) xs) (take (i + 1 - n) (drop n xs))) q ∙ ap (λ w. done ++ cut (drop (i + 1) xs) w) (between_more xs s i 0 le h) ∙ ap (λ ws. done ++ ws) (sym (cut-solid xs i (take (i - s) (drop s xs)) h e)) ∙ inv

pub last_turn : (done more : List (List ℕ)) (xs line : List ℕ) (s i : ℕ) → length xs ≤ i → i ≤ length xs → xs ≡ without_return line → more ≡ done ++ ended (take (length xs - s) (drop s xs)) → done ++ cut (drop i xs) (take (i - s) (drop s xs)) ≡ cut xs [] → more ≡ words_of line
last_turn done more xs line s i h l w m inv =
    let e : length xs ≡ i = omega arith in
    m ∙ ap (λ n. done ++ ended (take (n - s) (drop s xs))) e ∙ ap (λ ws. done ++ ws) (sym (cut-end xs i (take (i - s) (drop s xs)) h)) ∙ inv ∙ ap (λ v. cut v []) w
