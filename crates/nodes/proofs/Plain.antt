-- Nodes and entries are of bytes, no node is blank, and a page is of one node.
-- Assumes nothing.
use Rattle.std.proofs.Common.{◌≡◌, ℕ, zero, suc, ◌+◌, ◌-◌, ◌<◌, List, [], ◌∷◌, ◌++◌, length, get_or, drop, replicate, sym, refl, ap, ◌∙◌, subst, arith, length-append}
use Rattle.std.specs.List.{AllByRecursion}
use Rattle.std.proofs.ByRecursion.{All-append, All-take, All-drop, All-from_get_or}
use Rattle.nodes.specs.Entries.{Entry, blank, weight_of, Fits}
use Rattle.nodes.specs.Page.{two_bytes, item, body, slots, head, encode, word_at, slot_at, text_at, level_of, entries_of}
use Rattle.nodes.specs.Laws.{Byte, ByteEntry, ReadsBack, NeverBlank, OneNode, BytesStay}
use Rattle.nodes.proofs.Entries.{get_or-entries}
use Rattle.nodes.proofs.Encode.{length-item, weight_is, length-encode, level-encode, weight-encode, entries-encode}

word_bytes : (n : ℕ) → n < 65536 → AllByRecursion Byte (two_bytes n)
word_bytes n h = (omega arith, (omega arith, tt))

item-bytes : (e : Entry) → ByteEntry e → length (item e) < 65536 → AllByRecursion Byte (item e)
item-bytes e b h =
    let n = length-item e in
    All-append Byte (two_bytes (length e.key)) (e.key ++ (two_bytes (length e.value) ++ e.value)) (word_bytes (length e.key) (omega arith))
    (All-append Byte e.key (two_bytes (length e.value) ++ e.value) b.0
    (All-append Byte (two_bytes (length e.value)) e.value (word_bytes (length e.value) (omega arith)) b.1))

body_bytes : (es : List Entry) → AllByRecursion ByteEntry es → length (body es) < 65536 → AllByRecursion Byte (body es)
body_bytes [] b h = tt
body_bytes (e ∷ es) b h =
    let n = length-append (item e) (body es) in
    All-append Byte (item e) (body es) (item-bytes e b.0 (omega arith)) (body_bytes es b.1 (omega arith))

slots-bytes : (at : ℕ) (es : List Entry) → at + length (body es) < 65536 → AllByRecursion Byte (slots at es)
slots-bytes at [] h = tt
slots-bytes at (e ∷ es) h =
    let n = length-append (item e) (body es) in
    All-append Byte (slots (at + length (item e)) es) (two_bytes at) (slots-bytes (at + length (item e)) es (omega arith)) (word_bytes at (omega arith))

zeros-bytes : (n : ℕ) → AllByRecursion Byte (replicate n 0)
zeros-bytes zero = tt
zeros-bytes (suc n) = (omega arith, zeros-bytes n)

encode-bytes : (l : ℕ) (es : List Entry) → Fits es → l < 256 → AllByRecursion ByteEntry es → AllByRecursion Byte (encode l es)
unfolding encode
encode-bytes l es h b a =
    let w = weight_is es in
    All-append Byte (head l es) (body es ++ (replicate (4088 - weight_of es) 0 ++ slots 8 es))
    (All-append Byte (183 ∷ l ∷ []) (two_bytes (length es) ++ (two_bytes (weight_of es) ++ (0 ∷ 0 ∷ []))) (omega arith, (b, tt))
    (All-append Byte (two_bytes (length es)) (two_bytes (weight_of es) ++ (0 ∷ 0 ∷ [])) (word_bytes (length es) (omega arith))
    (All-append Byte (two_bytes (weight_of es)) (0 ∷ 0 ∷ []) (word_bytes (weight_of es) (omega arith)) (omega arith, (omega arith, tt)))))
    (All-append Byte (body es) (replicate (4088 - weight_of es) 0 ++ slots 8 es) (body_bytes es a (omega arith))
    (All-append Byte (replicate (4088 - weight_of es) 0) (slots 8 es) (zeros-bytes (4088 - weight_of es)) (slots-bytes 8 es (omega arith))))

pub reads-back : ReadsBack
reads-back l es h =
    record { long = length-encode l es h; level = level-encode l es; entries = entries-encode l es h; heavy = weight-encode l es; bytes = λ b a. encode-bytes l es h b a }

pub never-blank : NeverBlank
unfolding encode
never-blank l es = (refl, λ h. let z : ◌≡◌ {A = ℕ} 183 0 = ap (λ (p : List ℕ). get_or p 0 0) h in omega arith)

pub one-node : OneNode
one-node l m es fs h k e =
    (sym (level-encode l es) ∙ ap level_of e ∙ level-encode m fs, sym (entries-encode l es h) ∙ ap entries_of e ∙ entries-encode m fs k)

text-bytes : (p : List ℕ) (at : ℕ) → AllByRecursion Byte p → AllByRecursion Byte (text_at p at)
text-bytes p at h = All-take Byte (word_at p at) (drop (at + 2) p) (All-drop Byte (at + 2) p h)

pub bytes-stay : BytesStay
bytes-stay p h =
    All-from_get_or ByteEntry (entries_of p) blank
    (λ i l. let P : Entry → Type 0 = ByteEntry in subst P (sym (get_or-entries p i blank l)) (text-bytes p (slot_at p i) h, text-bytes p (slot_at p i + 2 + word_at p (slot_at p i)) h))
