-- Bytes put into a page: entry by entry they make a node.
-- Assumes nothing.
use Rattle.std.proofs.Common.{◌≡◌, ℕ, ◌+◌, ◌-◌, ◌*◌, ◌≤◌, List, [], ◌∷◌, ◌++◌, length, take, drop, set, replicate, sym, refl, ap, ◌∙◌, append_assoc, arith, length-append}
use lib.ListN.{length-replicate, replicate-append-replicate}
use Rattle.std.proofs.lemmas.List.{take_at, drop_at, append-nil, length-take-le, drop-drop}
use Rattle.nodes.specs.Entries.{Entry, entry_weight, weight_of}
use Rattle.nodes.specs.Page.{two_bytes, item, body, slots, head, encode, put_at}
use Rattle.nodes.proofs.Encode.{length-item, body-append, slots-append, weight_is, weight-append}

drop_past : (a b : List ℕ) (at k : ℕ) → length a ≡ at → drop (at + k) (a ++ b) ≡ drop k b
drop_past a b at k h = sym (drop-drop k at (a ++ b)) ∙ ap (drop k) (drop_at a b at h)

-- d is put where b stands
put_at-at : (a b c d : List ℕ) (at : ℕ) → length a ≡ at → length d ≡ length b → put_at at d (a ++ (b ++ c)) ≡ a ++ (d ++ c)
put_at-at a b c d at h k =
    let t : take at (a ++ (b ++ c)) ≡ a = take_at a (b ++ c) at h in
    let r : drop (at + length d) (a ++ (b ++ c)) ≡ c = drop_past a (b ++ c) at (length d) h ∙ drop_at b c (length d) (sym k) in
    ap (λ (x : List ℕ). x ++ (d ++ drop (at + length d) (a ++ (b ++ c)))) t ∙ ap (λ (x : List ℕ). a ++ (d ++ x)) r

-- two writes, the second where the first ends
pub put_at-put_at : (p a b : List ℕ) (at to : ℕ) → at ≤ length p → at + length a ≡ to → put_at to b (put_at at a p) ≡ put_at at (a ++ b) p
put_at-put_at p a b at to h e =
    let n : length (take at p) ≡ at = length-take-le at p h in
    let m : length (take at p ++ a) ≡ to = omega (arith, length-append (take at p) a) in
    let s : put_at at a p ≡ (take at p ++ a) ++ drop (at + length a) p = sym (append_assoc (take at p) a (drop (at + length a) p)) in
    let t : take to (put_at at a p) ≡ take at p ++ a = ap (take to) s ∙ take_at (take at p ++ a) (drop (at + length a) p) to m in
    let q : at + length a + length b ≡ at + length (a ++ b) = omega (arith, length-append a b) in
    let r : drop (to + length b) (put_at at a p) ≡ drop (at + length (a ++ b)) p =
    ap (drop (to + length b)) s ∙ drop_past (take at p ++ a) (drop (at + length a) p) to (length b) m ∙ drop-drop (length b) (at + length a) p ∙ ap (λ (k : ℕ). drop k p) q in
    ap (λ (x : List ℕ). x ++ (b ++ drop (to + length b) (put_at at a p))) t ∙ ap (λ (x : List ℕ). (take at p ++ a) ++ (b ++ x)) r ∙ simp append_assoc

-- ONE ENTRY MORE, as four writes make it into a page that says that it has n entries of the weight w
abbrev appends : ℕ → ℕ → Entry → List ℕ → List ℕ
appends n w e p = put_at 4 (two_bytes (w + entry_weight e)) (put_at 2 (two_bytes (n + 1)) (put_at (4094 - 2 * n) (two_bytes (8 + w - 2 * n)) (put_at (8 + w - 2 * n) (item e) p)))

-- where it begins
abbrev next : List Entry → ℕ
next es = 8 + weight_of es - 2 * length es

-- the zeros that are left
abbrev left : List Entry → Entry → List ℕ
left es e = replicate (4088 - weight_of (es ++ (e ∷ []))) 0

zeros-split : (n a k : ℕ) → n ≡ a + (k + 2) → replicate {A = ℕ} n 0 ≡ replicate a 0 ++ (replicate k 0 ++ (0 ∷ 0 ∷ []))
zeros-split n a k h =
    ap (λ (m : ℕ). replicate {A = ℕ} m 0) h ∙ sym (replicate-append-replicate a (k + 2) 0) ∙ ap (λ (x : List ℕ). replicate a 0 ++ x) (sym (replicate-append-replicate k 2 0))

-- the count and the weight are put into the first bytes
counts-put : (l m w : ℕ) (es : List Entry) (r : List ℕ) → put_at 4 (two_bytes w) (put_at 2 (two_bytes m) (head l es ++ r)) ≡ 183 ∷ l ∷ (two_bytes m ++ (two_bytes w ++ (0 ∷ 0 ∷ r)))
counts-put l m w es r = refl

module _ (l : ℕ) (es : List Entry) (e : Entry) (h : weight_of es + entry_weight e ≤ 4088) where
  weight-now : weight_of (es ++ (e ∷ [])) ≡ weight_of es + entry_weight e
  weight-now = omega (arith, weight-append es (e ∷ []))

  next-is : next es ≡ 8 + length (body es)
  next-is = omega (arith, weight_is es)

  -- before, zeros stand where the entry and its slot go
  before : encode l es ≡ (head l es ++ body es) ++ (replicate (length (item e)) 0 ++ (left es e ++ ((0 ∷ 0 ∷ []) ++ slots 8 es)))
  unfolding encode
  before =
      let z = zeros-split (4088 - weight_of es) (length (item e)) (4088 - weight_of (es ++ (e ∷ []))) (omega (arith, weight-now, length-item e)) in
      ap (λ (x : List ℕ). head l es ++ (body es ++ (x ++ slots 8 es))) z ∙ simp append_assoc

  item-put : put_at (next es) (item e) (encode l es) ≡ (head l es ++ (body es ++ (item e ++ left es e))) ++ ((0 ∷ 0 ∷ []) ++ slots 8 es)
  item-put =
      let n : length (head l es ++ body es) ≡ next es = omega (arith, next-is, length-append (head l es) (body es)) in
      ap (put_at (next es) (item e)) before
      ∙ put_at-at (head l es ++ body es) (replicate (length (item e)) 0) (left es e ++ ((0 ∷ 0 ∷ []) ++ slots 8 es)) (item e) (next es) n (sym (length-replicate (length (item e)) 0))
      ∙ simp append_assoc

  body-now : body es ++ item e ≡ body (es ++ (e ∷ []))
  body-now = ap (λ (x : List ℕ). body es ++ x) (sym (append-nil (item e))) ∙ sym (body-append es (e ∷ []))

  regroup : (r : List ℕ) → (head l es ++ (body es ++ (item e ++ left es e))) ++ r ≡ head l es ++ (body (es ++ (e ∷ [])) ++ (left es e ++ r))
  regroup r =
      ap (λ (x : List ℕ). head l es ++ x) (append_assoc (body es) (item e ++ left es e) r ∙ ap (λ (x : List ℕ). body es ++ x) (append_assoc (item e) (left es e) r) ∙ sym (append_assoc (body es) (item e) (left es e ++ r)))
      ∙ ap (λ (x : List ℕ). head l es ++ (x ++ (left es e ++ r))) body-now

  slot-put : put_at (4094 - 2 * length es) (two_bytes (next es)) (put_at (next es) (item e) (encode l es)) ≡ head l es ++ (body (es ++ (e ∷ [])) ++ (left es e ++ slots 8 (es ++ (e ∷ []))))
  slot-put =
      let front : List ℕ = head l es ++ (body es ++ (item e ++ left es e)) in
      let n : length front ≡ 4094 - 2 * length es =
      omega (arith, length-append (body es) (item e ++ left es e), length-append (item e) (left es e), length-replicate {A = ℕ} (4088 - weight_of (es ++ (e ∷ []))) 0, weight_is es, weight-now, length-item e) in
      ap (put_at (4094 - 2 * length es) (two_bytes (next es))) item-put
      ∙ put_at-at front (0 ∷ 0 ∷ []) (slots 8 es) (two_bytes (next es)) (4094 - 2 * length es) n refl
      ∙ regroup (two_bytes (next es) ++ slots 8 es)
      ∙ ap (λ (n : ℕ). head l es ++ (body (es ++ (e ∷ [])) ++ (left es e ++ (two_bytes n ++ slots 8 es)))) next-is
      ∙ ap (λ (x : List ℕ). head l es ++ (body (es ++ (e ∷ [])) ++ (left es e ++ x))) (sym (slots-append 8 es (e ∷ [])))

  append-is : appends (length es) (weight_of es) e (encode l es) ≡ encode l (es ++ (e ∷ []))
  unfolding encode
  append-is =
      let rest : List ℕ = body (es ++ (e ∷ [])) ++ (left es e ++ slots 8 (es ++ (e ∷ []))) in
      ap (λ (x : List ℕ). put_at 4 (two_bytes (weight_of es + entry_weight e)) (put_at 2 (two_bytes (length es + 1)) x)) slot-put
      ∙ counts-put l (length es + 1) (weight_of es + entry_weight e) es rest
      ∙ ap (λ (n : ℕ). 183 ∷ l ∷ (two_bytes n ++ (two_bytes (weight_of es + entry_weight e) ++ (0 ∷ 0 ∷ rest)))) (sym (length-append es (e ∷ [])))
      ∙ ap (λ (n : ℕ). 183 ∷ l ∷ (two_bytes (length (es ++ (e ∷ []))) ++ (two_bytes n ++ (0 ∷ 0 ∷ rest)))) (sym weight-now)

pub append-steps : (l n w : ℕ) (es : List Entry) (e : Entry) (p p₁ p₂ p₃ p₄ : List ℕ) → p ≡ encode l es → n ≡ length es → w ≡ weight_of es → weight_of es + entry_weight e ≤ 4088 → p₁ ≡ put_at (8 + w - 2 * n) (item e) p → p₂ ≡ put_at (4094 - 2 * n) (two_bytes (8 + w - 2 * n)) p₁ → p₃ ≡ put_at 2 (two_bytes (n + 1)) p₂ → p₄ ≡ put_at 4 (two_bytes (w + entry_weight e)) p₃ → p₄ ≡ encode l (es ++ (e ∷ []))
append-steps l n w es e p p₁ p₂ p₃ p₄ hp hn hw h q₁ q₂ q₃ q₄ =
    let steps : p₄ ≡ appends n w e p =
    q₄ ∙ ap (put_at 4 (two_bytes (w + entry_weight e))) (q₃ ∙ ap (put_at 2 (two_bytes (n + 1))) (q₂ ∙ ap (put_at (4094 - 2 * n) (two_bytes (8 + w - 2 * n))) q₁)) in
    steps ∙ ap (appends n w e) hp ∙ ap (λ (m : ℕ). appends m w e (encode l es)) hn ∙ ap (λ (m : ℕ). appends (length es) m e (encode l es)) hw ∙ append-is l es e h

-- a page of zeros with a mark and a level is a node with no entries
pub start_is : (n l : ℕ) → n ≡ 4096 → set (set (replicate n 0) 0 183) 1 l ≡ encode l []
unfolding encode
start_is n l h =
    ap (λ (x : List ℕ). set (set x 0 183) 1 l) (ap (λ (k : ℕ). replicate {A = ℕ} k 0) h ∙ sym (replicate-append-replicate 8 4088 0))
    ∙ ap (λ (x : List ℕ). 183 ∷ l ∷ 0 ∷ 0 ∷ 0 ∷ 0 ∷ 0 ∷ 0 ∷ x) (sym (append-nil (replicate 4088 0)))
