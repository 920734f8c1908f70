-- A node's page says what it was made of.
-- Assumes nothing.
use Rattle.std.proofs.Common.{◌≡◌, ℕ, suc, ◌+◌, ◌-◌, ◌*◌, ◌/◌, ◌%◌, ◌<◌, List, [], ◌∷◌, ◌++◌, length, get_or, take, drop, replicate, sym, refl, ap, ◌∙◌, subst, append_assoc, add-zero, arith, length-append}
use native.Mathlib.Nat.{mod-add-div}
use lib.ListN.{length-replicate}
use lib.Seq.{split_at}
use Rattle.std.proofs.lemmas.List.{get_or_at, take_at, drop_at, append-nil, length-take-le, ext_get_or, get_or-append-add, drop-drop}
use Rattle.nodes.specs.Entries.{Entry, blank, weight_of, Fits}
use Rattle.nodes.specs.Page.{two_bytes, item, body, slots, head, encode, word_at, slot_at, text_at, entry_at, level_of, entries_of}
use Rattle.nodes.proofs.Entries.{length-entries, get_or-entries}

pub word-is : (n : ℕ) → n % 256 + 256 * (n / 256) ≡ n
word-is n = mod-add-div n 256

pub length-item : (e : Entry) → length (item e) ≡ length e.key + length e.value + 4
length-item e =
    let a = length-append e.key (two_bytes (length e.value) ++ e.value) in
    omega (arith, a)

pub body-append : (es fs : List Entry) → body (es ++ fs) ≡ body es ++ body fs
body-append [] fs = refl
body-append (e ∷ es) fs = ap (λ (x : List ℕ). item e ++ x) (body-append es fs) ∙ sym (append_assoc (item e) (body es) (body fs))

pub slots-append : (at : ℕ) (es fs : List Entry) → slots at (es ++ fs) ≡ slots (at + length (body es)) fs ++ slots at es
slots-append at [] fs = rw (add-zero, append-nil)
slots-append at (e ∷ es) fs =
    let n : at + length (item e) + length (body es) ≡ at + length (body (e ∷ es)) = omega (arith, length-append (item e) (body es)) in
    ap (λ (x : List ℕ). x ++ two_bytes at) (slots-append (at + length (item e)) es fs ∙ ap (λ (m : ℕ). slots m fs ++ slots (at + length (item e)) es) n)
    ∙ append_assoc (slots (at + length (body (e ∷ es))) fs) (slots (at + length (item e)) es) (two_bytes at)

pub length-slots : (at : ℕ) (es : List Entry) → length (slots at es) ≡ 2 * length es
length-slots at [] = refl
length-slots at (e ∷ es) =
    let i = length-slots (at + length (item e)) es in
    let a = length-append (slots (at + length (item e)) es) (two_bytes at) in
    omega arith

pub weight_is : (es : List Entry) → length (body es) + 2 * length es ≡ weight_of es
weight_is [] = refl
weight_is (e ∷ es) =
    let i = weight_is es in
    let a = length-append (item e) (body es) in
    let b = length-item e in
    omega arith

pub weight-append : (es fs : List Entry) → weight_of (es ++ fs) ≡ weight_of es + weight_of fs
weight-append [] fs = omega arith
weight-append (e ∷ es) fs = let i = weight-append es fs in omega arith

pub length-encode : (l : ℕ) (es : List Entry) → Fits es → length (encode l es) ≡ 4096
unfolding encode
length-encode l es h =
    let a = length-append (body es) (replicate (4088 - weight_of es) 0 ++ slots 8 es) in
    let b = length-append (replicate (4088 - weight_of es) 0) (slots 8 es) in
    let z = length-replicate {A = ℕ} (4088 - weight_of es) 0 in
    let s = length-slots 8 es in
    let w = weight_is es in
    omega arith

-- a word, and a text after its length, where they stand among other bytes
get_or-after : (p q : List ℕ) (a b : ℕ) → get_or (p ++ (a ∷ b ∷ q)) (length p + 1) 0 ≡ b
get_or-after p q a b = get_or-append-add p (a ∷ b ∷ q) 1 0

pub word_at-at : (p q : List ℕ) (n at : ℕ) → length p ≡ at → word_at (p ++ (two_bytes n ++ q)) at ≡ n
word_at-at p q n at h =
    let a = get_or_at p (n % 256) (n / 256 ∷ q) 0 (length p) refl in
    let b = get_or-after p q (n % 256) (n / 256) in
    let w = word-is n in
    rw (← h) (rw (a, b) w)

pub text_at-at : (p t q : List ℕ) (at : ℕ) → length p ≡ at → text_at (p ++ (two_bytes (length t) ++ (t ++ q))) at ≡ t
text_at-at p t q at h =
    let w = word_at-at p (t ++ q) (length t) at h in
    let d : drop (at + 2) (p ++ (two_bytes (length t) ++ (t ++ q))) ≡ t ++ q = sym (drop-drop 2 at (p ++ (two_bytes (length t) ++ (t ++ q)))) ∙ ap (drop 2) (drop_at p (two_bytes (length t) ++ (t ++ q)) at h) in
    rw (w, d) (take_at t q (length t) refl)

-- the page around one of its entries
around-item : (l : ℕ) (fs gs : List Entry) (e : Entry) → encode l (fs ++ (e ∷ gs)) ≡ (head l (fs ++ (e ∷ gs)) ++ body fs) ++ (item e ++ (body gs ++ (replicate (4088 - weight_of (fs ++ (e ∷ gs))) 0 ++ slots 8 (fs ++ (e ∷ gs)))))
unfolding encode
around-item l fs gs e = rw (body-append fs (e ∷ gs)) (simp append_assoc)

abbrev slot-front : ℕ → List Entry → List Entry → Entry → List ℕ
slot-front l fs gs e = head l (fs ++ (e ∷ gs)) ++ (body (fs ++ (e ∷ gs)) ++ (replicate (4088 - weight_of (fs ++ (e ∷ gs))) 0 ++ slots (8 + length (body fs) + length (item e)) gs))

around-slot : (l : ℕ) (fs gs : List Entry) (e : Entry) → encode l (fs ++ (e ∷ gs)) ≡ slot-front l fs gs e ++ (two_bytes (8 + length (body fs)) ++ slots 8 fs)
unfolding encode
around-slot l fs gs e = rw (slots-append 8 fs (e ∷ gs)) (simp append_assoc)

length-slot-front : (l : ℕ) (fs gs : List Entry) (e : Entry) → Fits (fs ++ (e ∷ gs)) → length (slot-front l fs gs e) ≡ 4094 - 2 * length fs
length-slot-front l fs gs e h =
    let a = length-append (body (fs ++ (e ∷ gs))) (replicate (4088 - weight_of (fs ++ (e ∷ gs))) 0 ++ slots (8 + length (body fs) + length (item e)) gs) in
    let b = length-append (replicate {A = ℕ} (4088 - weight_of (fs ++ (e ∷ gs))) 0) (slots (8 + length (body fs) + length (item e)) gs) in
    let z = length-replicate {A = ℕ} (4088 - weight_of (fs ++ (e ∷ gs))) 0 in
    let s = length-slots (8 + length (body fs) + length (item e)) gs in
    let w = weight_is (fs ++ (e ∷ gs)) in
    let n = length-append fs (e ∷ gs) in
    omega arith

slot_at-is : (l : ℕ) (fs gs : List Entry) (e : Entry) → Fits (fs ++ (e ∷ gs)) → slot_at (encode l (fs ++ (e ∷ gs))) (length fs) ≡ 8 + length (body fs)
slot_at-is l fs gs e h = rw (around-slot l fs gs e) (word_at-at (slot-front l fs gs e) (slots 8 fs) (8 + length (body fs)) (4094 - 2 * length fs) (length-slot-front l fs gs e h))

-- an entry among other bytes
key-at : (p q : List ℕ) (e : Entry) (at : ℕ) → length p ≡ at → text_at (p ++ (item e ++ q)) at ≡ e.key
key-at p q e at h =
    let i : item e ++ q ≡ two_bytes (length e.key) ++ (e.key ++ (two_bytes (length e.value) ++ (e.value ++ q))) = simp append_assoc in
    rw i (text_at-at p e.key (two_bytes (length e.value) ++ (e.value ++ q)) at h)

key-length-at : (p q : List ℕ) (e : Entry) (at : ℕ) → length p ≡ at → word_at (p ++ (item e ++ q)) at ≡ length e.key
key-length-at p q e at h =
    let i : item e ++ q ≡ two_bytes (length e.key) ++ (e.key ++ (two_bytes (length e.value) ++ (e.value ++ q))) = simp append_assoc in
    rw i (word_at-at p (e.key ++ (two_bytes (length e.value) ++ (e.value ++ q))) (length e.key) at h)

value-at : (p q : List ℕ) (e : Entry) (at : ℕ) → length p ≡ at → text_at (p ++ (item e ++ q)) (at + 2 + length e.key) ≡ e.value
value-at p q e at h =
    let i : p ++ (item e ++ q) ≡ (p ++ (two_bytes (length e.key) ++ e.key)) ++ (two_bytes (length e.value) ++ (e.value ++ q)) = simp append_assoc in
    let n : length (p ++ (two_bytes (length e.key) ++ e.key)) ≡ at + 2 + length e.key = omega (arith, length-append p (two_bytes (length e.key) ++ e.key)) in
    rw i (text_at-at (p ++ (two_bytes (length e.key) ++ e.key)) e.value q (at + 2 + length e.key) n)

length-item-front : (l : ℕ) (fs gs : List Entry) (e : Entry) → length (head l (fs ++ (e ∷ gs)) ++ body fs) ≡ 8 + length (body fs)
length-item-front l fs gs e = omega (arith, length-append (head l (fs ++ (e ∷ gs))) (body fs))

entry-from : (p : List ℕ) (i at : ℕ) (e : Entry) → slot_at p i ≡ at → word_at p at ≡ length e.key → text_at p at ≡ e.key → text_at p (at + 2 + length e.key) ≡ e.value → entry_at p i ≡ e
entry-from p i at e s n k v =
    let mk : List ℕ → List ℕ → Entry = λ a b. record { key = a; value = b } in
    ap (λ (x : ℕ). mk (text_at p x) (text_at p (x + 2 + word_at p x))) s
    ∙ ap (λ (x : ℕ). mk (text_at p at) (text_at p (at + 2 + x))) n
    ∙ ap (λ (x : List ℕ). mk x (text_at p (at + 2 + length e.key))) k
    ∙ ap (λ (x : List ℕ). mk e.key x) v

pub entry_at-is : (l : ℕ) (fs gs : List Entry) (e : Entry) → Fits (fs ++ (e ∷ gs)) → entry_at (encode l (fs ++ (e ∷ gs))) (length fs) ≡ e
entry_at-is l fs gs e h =
    let p : List ℕ = encode l (fs ++ (e ∷ gs)) in
    let s = slot_at-is l fs gs e h in
    let m = length-item-front l fs gs e in
    let k : text_at p (8 + length (body fs)) ≡ e.key = rw (around-item l fs gs e) (key-at (head l (fs ++ (e ∷ gs)) ++ body fs) _ e (8 + length (body fs)) m) in
    let n : word_at p (8 + length (body fs)) ≡ length e.key = rw (around-item l fs gs e) (key-length-at (head l (fs ++ (e ∷ gs)) ++ body fs) _ e (8 + length (body fs)) m) in
    let v : text_at p (8 + length (body fs) + 2 + length e.key) ≡ e.value = rw (around-item l fs gs e) (value-at (head l (fs ++ (e ∷ gs)) ++ body fs) _ e (8 + length (body fs)) m) in
    entry-from p (length fs) (8 + length (body fs)) e s n k v

-- a node's page says what it was made of
pub level-encode : (l : ℕ) (es : List Entry) → level_of (encode l es) ≡ l
unfolding encode
level-encode l es = refl

pub count-encode : (l : ℕ) (es : List Entry) → word_at (encode l es) 2 ≡ length es
unfolding encode
count-encode l es = word-is (length es)

pub weight-encode : (l : ℕ) (es : List Entry) → word_at (encode l es) 4 ≡ weight_of es
unfolding encode
weight-encode l es = word-is (weight_of es)

pub entries-encode : (l : ℕ) (es : List Entry) → Fits es → entries_of (encode l es) ≡ es
entries-encode l es h =
    let n : length (entries_of (encode l es)) ≡ length es = length-entries (encode l es) ∙ count-encode l es in
    ext_get_or blank (entries_of (encode l es)) es n
    (λ i lt.
    let i< : i < length es = omega arith in
    let s : es ≡ take i es ++ (get_or es i blank ∷ drop (suc i) es) = split_at es i blank i< in
    let m : length (take i es) ≡ i = length-take-le i es (omega arith) in
    get_or-entries (encode l es) i blank lt
    ∙ ap (λ (j : ℕ). entry_at (encode l es) j) (sym m)
    ∙ ap (λ (xs : List Entry). entry_at (encode l xs) (length (take i es))) s
    ∙ entry_at-is l (take i es) (drop (suc i) es) (get_or es i blank) (let P : List Entry → Type 0 = λ xs. Fits xs in subst P s h))
