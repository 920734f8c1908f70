-- What is known of a page that is a node.
-- Assumes nothing.
use Rattle.std.proofs.Common.{◌≡◌, ℕ, ◌*◌, ◌≤◌, List, [], ◌∷◌, length, sym, ap, ◌∙◌, subst, arith}
use Rattle.nodes.specs.Entries.{Entry, weight_of}
use Rattle.nodes.specs.Page.{level_of, entries_of, weight_at, IsNode, Node}
use Rattle.nodes.proofs.Encode.{level-encode, weight-encode, entries-encode}

module _ {p : List ℕ} {l : ℕ} {es : List Entry} (h : IsNode p l es) where
  pub level-of : level_of p ≡ l
  level-of = ap level_of h.bytes ∙ level-encode l es

  pub entries-of : entries_of p ≡ es
  entries-of = ap entries_of h.bytes ∙ entries-encode l es h.fits

  pub weight-at : weight_at p ≡ weight_of es
  weight-at = ap weight_at h.bytes ∙ weight-encode l es

-- the same node, written otherwise
pub as-entries : {p : List ℕ} {l : ℕ} {es fs : List Entry} → es ≡ fs → IsNode p l es → IsNode p l fs
as-entries {p} {l} {es} {fs} e h = let P : List Entry → Type 0 = λ xs. IsNode p l xs in subst P e h

pub as-level : {p : List ℕ} {l m : ℕ} {es : List Entry} → l ≡ m → IsNode p l es → IsNode p m es
as-level {p} {l} {m} {es} e h = let P : ℕ → Type 0 = λ n. IsNode p n es in subst P e h

pub as-page : {p q : List ℕ} {l : ℕ} {es : List Entry} → p ≡ q → IsNode q l es → IsNode p l es
as-page e h = record { bytes = e ∙ h.bytes; fits = h.fits }

pub node_of : {p : List ℕ} {l : ℕ} {es : List Entry} → IsNode p l es → Node p
node_of h = as-level (sym (level-of h)) (as-entries (sym (entries-of h)) h)

-- each entry weighs 6 at least
pub weight-count : (es : List Entry) → 6 * length es ≤ weight_of es
weight-count [] = omega arith
weight-count (e ∷ es) = let i = weight-count es in omega arith
