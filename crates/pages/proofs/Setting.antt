-- A word of the memory is written: what is seen of it then.
-- Assumes nothing.
use Rattle.std.proofs.Common.{◌≡◌, ℕ, ◌+◌, ◌*◌, ◌/◌, ◌%◌, ◌^◌, ◌<◌, ◌≤◌, Bool, true, false, cond, eqb, length, get_or, set, sym, refl, ap, ◌∙◌, subst, arith, lit<, get_or-set_other, get_or-set_same, w64}
use lib.Bits.{bit_and}
use mathlib.Core.Path.{fun_ext}
use Rattle.std.specs.Int.{bit_at, bit_not}
use Rattle.std.specs.Int.RustNames.{bit_or}
use Rattle.std.proofs.lemmas.Bool.{eq-eqb, ne_eqb}
use Rattle.std.proofs.lemmas.Nat.{and_le_l, one_shl, or_lt, pow_below}
use Rattle.std.proofs.lemmas.Nat.Bits.{bit_at_cat_low, bit_at_clear_other, bit_at_clear_same, bit_at_set_other, bit_at_set_same, same_from_bits_below}
use Rattle.paging.specs.Layout.{numbers}
use Rattle.paging.specs.Memory.{Mem, at}
use Rattle.pages.specs.declared.flags.Flag.{Flag}
use Rattle.pages.specs.declared.flags.Flag.TheVariants.{Volatile, Busy, Held, Dirty, Slot}
use Rattle.pages.specs.declared.flags.Version.{Version}
use Rattle.pages.specs.declared.flags.Version.TheVariants.{Now, Synced}
use Rattle.pages.specs.Flags.{flag_bit, flag_word, version_word, with_flag, with_place}
use Rattle.pages.specs.Words.{place, flag, put_place, Flagged, Ram, first_word, second_word, mem_of, Fits}
use Rattle.pages.proofs.Counts.{by-eq}

-- ONE FLAG OF A WORD
low_bit : (w i : ℕ) → i < 38 → bit_at (place w) i ≡ bit_at w i
low_bit w i l =
    let e : w ≡ w / 274877906944 * 274877906944 + place w = omega arith in
    sym (ap (λ (n : ℕ). bit_at n i) e ∙ bit_at_cat_low (w / 274877906944) 38 (place w) i l)

place-same : (v w : ℕ) → ((i : ℕ) → i < 38 → bit_at w i ≡ bit_at v i) → place w ≡ place v
place-same v w h = same_from_bits_below 38 (place w) (place v) (omega arith) (omega arith) (λ i l. low_bit w i l ∙ (h i l ∙ sym (low_bit v i l)))

pub flag_on : (v b : ℕ) → 38 ≤ b → b < 41 → Flagged v (bit_or v (1 * 2 ^ b % 2 ^ 64)) b true
flag_on v b lo hi =
    let l : b < 64 = omega arith in
    let p = pow_below b 41 hi in
    record {
      is = eq-eqb _ 1 (bit_at_set_same w64 v b l);
      others = λ i k ne. ap (λ (n : ℕ). eqb n 1) (bit_at_set_other w64 v b l i ne);
      place = place-same v _ (λ i k. bit_at_set_other w64 v b l i (omega arith));
      short = λ s. or_lt 41 v (1 * 2 ^ b % 2 ^ 64) s (rw (one_shl b 64 l) p);
    }

pub flag_off : (v b : ℕ) → 38 ≤ b → b < 41 → Flagged v (bit_and v (bit_not w64 (1 * 2 ^ b % 2 ^ 64))) b false
flag_off v b lo hi =
    let l : b < 64 = omega arith in
    let p = and_le_l v (bit_not w64 (1 * 2 ^ b % 2 ^ 64)) in
    record {
      is = ne_eqb _ 1 (let e = bit_at_clear_same w64 v b l in omega arith);
      others = λ i k ne. ap (λ (n : ℕ). eqb n 1) (bit_at_clear_other w64 v b l i k ne);
      place = place-same v _ (λ i k. bit_at_clear_other w64 v b l i (omega arith) (omega arith));
      short = λ s. omega arith;
    }

-- ONE WORD OF THE MEMORY
abbrev wrote : Ram → ℕ → ℕ → Ram
wrote r j w = record { size = r.size; words = set r.words j w; left = r.left; next = r.next }

at_own : {A : Type 0} (i : ℕ) (f : ℕ → A) (v : A) → v ≡ f i → at i v f ≡ f
at_own i f v e = fun_ext (λ k. by-eq k i (λ t. cond t v (f k) ≡ f k) (λ d. e ∙ ap f (sym d)) (λ d. refl))

module _ {A : Type 0} (g : ℕ → A) (r : Ram) (i w : ℕ) (h : 2 * i + 1 < length r.words) where
  first-own : (λ k. g (first_word (wrote r (2 * i) w) k)) ≡ at i (g w) (λ k. g (first_word r k))
  first-own = fun_ext (λ k. by-eq k i (λ t. g (first_word (wrote r (2 * i) w) k) ≡ cond t (g w) (g (first_word r k)))
      (λ e. rw e (ap g (get_or-set_same r.words (2 * i) w 0 (omega arith)))) (λ e. ap g (get_or-set_other r.words (2 * i) (2 * k) w 0 (omega arith))))

  second-own : (λ k. g (second_word (wrote r (2 * i + 1) w) k)) ≡ at i (g w) (λ k. g (second_word r k))
  second-own = fun_ext (λ k. by-eq k i (λ t. g (second_word (wrote r (2 * i + 1) w) k) ≡ cond t (g w) (g (second_word r k)))
      (λ e. rw e (ap g (get_or-set_same r.words (2 * i + 1) w 0 h))) (λ e. ap g (get_or-set_other r.words (2 * i + 1) (2 * k + 1) w 0 (omega arith))))

  first-apart : ◌≡◌ {A = ℕ → A} (λ k. g (second_word (wrote r (2 * i) w) k)) (λ k. g (second_word r k))
  first-apart = fun_ext (λ k. ap g (get_or-set_other r.words (2 * i) (2 * k + 1) w 0 (omega arith)))

  second-apart : ◌≡◌ {A = ℕ → A} (λ k. g (first_word (wrote r (2 * i + 1) w) k)) (λ k. g (first_word r k))
  second-apart = fun_ext (λ k. ap g (get_or-set_other r.words (2 * i + 1) (2 * k) w 0 (omega arith)))

-- what is seen where the first word of i, or the second, has another place and other flags
abbrev new_first : ℕ → ℕ → Bool → Bool → Bool → Mem → Mem
new_first i v b0 b1 b2 m =
    record { size = m.size; sel = m.sel; dirty = at i b2 m.dirty; now = at i v m.now; old = m.old; vol = at i b0 m.vol; busy = at i b1 m.busy; held = m.held; left = m.left; next = m.next }

abbrev new_second : ℕ → ℕ → Bool → Bool → Mem → Mem
new_second i v b0 b1 m =
    record { size = m.size; sel = at i b1 m.sel; dirty = m.dirty; now = m.now; old = at i v m.old; vol = m.vol; busy = m.busy; held = at i b0 m.held; left = m.left; next = m.next }

module _ (r : Ram) (i w : ℕ) (h : 2 * i + 1 < length r.words) where
  first-seen : mem_of (wrote r (2 * i) w) ≡ new_first i (place w) (flag 38 w) (flag 39 w) (flag 40 w) (mem_of r)
  first-seen =
      λ j. record {
        size = r.size;
        sel = first-apart (flag 39) r i w h j;
        dirty = first-own (flag 40) r i w h j;
        now = first-own place r i w h j;
        old = first-apart place r i w h j;
        vol = first-own (flag 38) r i w h j;
        busy = first-own (flag 39) r i w h j;
        held = first-apart (flag 38) r i w h j;
        left = r.left;
        next = r.next;
      }

  second-seen : mem_of (wrote r (2 * i + 1) w) ≡ new_second i (place w) (flag 38 w) (flag 39 w) (mem_of r)
  second-seen =
      λ j. record {
        size = r.size;
        sel = second-own (flag 39) r i w h j;
        dirty = second-apart (flag 40) r i w h j;
        now = second-apart place r i w h j;
        old = second-own place r i w h j;
        vol = second-apart (flag 38) r i w h j;
        busy = second-apart (flag 39) r i w h j;
        held = second-own (flag 38) r i w h j;
        left = r.left;
        next = r.next;
      }

-- another place leaves the flags
module _ {w : ℕ} (v x : ℕ) (e : w ≡ put_place v x) (l : v < 274877906944) where
  flag_put38 : flag 38 w ≡ flag 38 x
  flag_put38 = let q : w / 274877906944 % 2 ≡ x / 274877906944 % 2 = omega arith in ap (λ (n : ℕ). eqb n 1) q

  flag_put39 : flag 39 w ≡ flag 39 x
  flag_put39 = let q : w / 549755813888 % 2 ≡ x / 549755813888 % 2 = omega arith in ap (λ (n : ℕ). eqb n 1) q

  flag_put40 : flag 40 w ≡ flag 40 x
  flag_put40 = let q : w / 1099511627776 % 2 ≡ x / 1099511627776 % 2 = omega arith in ap (λ (n : ℕ). eqb n 1) q

-- A FIELD IS SET
module _ (r : Ram) (i w : ℕ) (h : 2 * i + 1 < length r.words) where
  same : {A : Type 0} (t : ℕ → A) → at i (t i) t ≡ t
  same t = at_own i t (t i) refl

  by_first : (j v : ℕ) (b0 b1 b2 : Bool) → j ≡ 2 * i → place w ≡ v → flag 38 w ≡ b0 → flag 39 w ≡ b1 → flag 40 w ≡ b2 → mem_of (wrote r j w) ≡ new_first i v b0 b1 b2 (mem_of r)
  by_first j v b0 b1 b2 e ev e0 e1 e2 = ap (λ (j : ℕ). mem_of (wrote r j w)) e ∙ (first-seen r i w h ∙ (λ j. new_first i (ev j) (e0 j) (e1 j) (e2 j) (mem_of r)))

  by_second : (j v : ℕ) (b0 b1 : Bool) → j ≡ 2 * i + 1 → place w ≡ v → flag 38 w ≡ b0 → flag 39 w ≡ b1 → mem_of (wrote r j w) ≡ new_second i v b0 b1 (mem_of r)
  by_second j v b0 b1 e ev e0 e1 = ap (λ (j : ℕ). mem_of (wrote r j w)) e ∙ (second-seen r i w h ∙ (λ j. new_second i (ev j) (e0 j) (e1 j) (mem_of r)))

  flag-set-at : (f : Flag) (j : ℕ) (b : Bool) → j ≡ 2 * i + flag_word f → Flagged (get_or r.words j 0) w (flag_bit f) b → mem_of (wrote r j w) ≡ with_flag f i b (mem_of r)
  flag-set-at Volatile j b e t =
      let m = mem_of r in
      let e : j ≡ 2 * i = omega arith in
      let s : Flagged (first_word r i) w 38 b = subst (λ (j : ℕ). Flagged (get_or r.words j 0) w 38 b) e t in
      by_first j _ _ _ _ e s.place s.is (s.others 39 (lit< tt) (omega arith)) (s.others 40 (lit< tt) (omega arith)) ∙
      (λ j. record { size = m.size; sel = m.sel; dirty = same m.dirty j; now = same m.now j; old = m.old; vol = at i b m.vol; busy = same m.busy j; held = m.held; left = m.left; next = m.next })
  flag-set-at Busy j b e t =
      let m = mem_of r in
      let e : j ≡ 2 * i = omega arith in
      let s : Flagged (first_word r i) w 39 b = subst (λ (j : ℕ). Flagged (get_or r.words j 0) w 39 b) e t in
      by_first j _ _ _ _ e s.place (s.others 38 (lit< tt) (omega arith)) s.is (s.others 40 (lit< tt) (omega arith)) ∙
      (λ j. record { size = m.size; sel = m.sel; dirty = same m.dirty j; now = same m.now j; old = m.old; vol = same m.vol j; busy = at i b m.busy; held = m.held; left = m.left; next = m.next })
  flag-set-at Dirty j b e t =
      let m = mem_of r in
      let e : j ≡ 2 * i = omega arith in
      let s : Flagged (first_word r i) w 40 b = subst (λ (j : ℕ). Flagged (get_or r.words j 0) w 40 b) e t in
      by_first j _ _ _ _ e s.place (s.others 38 (lit< tt) (omega arith)) (s.others 39 (lit< tt) (omega arith)) s.is ∙
      (λ j. record { size = m.size; sel = m.sel; dirty = at i b m.dirty; now = same m.now j; old = m.old; vol = same m.vol j; busy = same m.busy j; held = m.held; left = m.left; next = m.next })
  flag-set-at Held j b e t =
      let m = mem_of r in
      let s : Flagged (second_word r i) w 38 b = subst (λ (j : ℕ). Flagged (get_or r.words j 0) w 38 b) e t in
      by_second j _ _ _ e s.place s.is (s.others 39 (lit< tt) (omega arith)) ∙
      (λ j. record { size = m.size; sel = same m.sel j; dirty = m.dirty; now = m.now; old = same m.old j; vol = m.vol; busy = m.busy; held = at i b m.held; left = m.left; next = m.next })
  flag-set-at Slot j b e t =
      let m = mem_of r in
      let s : Flagged (second_word r i) w 39 b = subst (λ (j : ℕ). Flagged (get_or r.words j 0) w 39 b) e t in
      by_second j _ _ _ e s.place (s.others 38 (lit< tt) (omega arith)) s.is ∙
      (λ j. record { size = m.size; sel = at i b m.sel; dirty = m.dirty; now = m.now; old = same m.old j; vol = m.vol; busy = m.busy; held = same m.held j; left = m.left; next = m.next })

  place-set-at : (x : Version) (j v : ℕ) → j ≡ 2 * i + version_word x → v < 274877906944 → w ≡ put_place v (get_or r.words j 0) → mem_of (wrote r j w) ≡ with_place x i v (mem_of r)
  place-set-at Now j v e l t =
      let m = mem_of r in
      let e : j ≡ 2 * i = omega arith in
      let t : w ≡ put_place v (first_word r i) = subst (λ (j : ℕ). w ≡ put_place v (get_or r.words j 0)) e t in
      by_first j v _ _ _ e (omega arith) (flag_put38 v _ t l) (flag_put39 v _ t l) (flag_put40 v _ t l) ∙
      (λ j. record { size = m.size; sel = m.sel; dirty = same m.dirty j; now = at i v m.now; old = m.old; vol = same m.vol j; busy = same m.busy j; held = m.held; left = m.left; next = m.next })
  place-set-at Synced j v e l t =
      let m = mem_of r in
      let t : w ≡ put_place v (second_word r i) = subst (λ (j : ℕ). w ≡ put_place v (get_or r.words j 0)) e t in
      by_second j v _ _ e (omega arith) (flag_put38 v _ t l) (flag_put39 v _ t l) ∙
      (λ j. record { size = m.size; sel = same m.sel j; dirty = m.dirty; now = m.now; old = at i v m.old; vol = m.vol; busy = m.busy; held = same m.held j; left = m.left; next = m.next })

pub flag-set : (r : Ram) (f : Flag) (i j w k d : ℕ) (b : Bool) → Fits r → i < numbers r.size → k ≡ flag_word f → j ≡ 2 * i + k → d ≡ flag_bit f → Flagged (get_or r.words j 0) w d b → mem_of (wrote r j w) ≡ with_flag f i b (mem_of r)
flag-set r f i j w k d b t l ek ej ed s =
    flag-set-at r i w (let a = t.0 in omega arith) f j b (ej ∙ ap (λ (k : ℕ). 2 * i + k) ek) (subst (λ (d : ℕ). Flagged (get_or r.words j 0) w d b) ed s)

pub place-set : (r : Ram) (x : Version) (i j w k v : ℕ) → Fits r → i < numbers r.size → k ≡ version_word x → j ≡ 2 * i + k → v < 274877906944 → w ≡ put_place v (get_or r.words j 0) → mem_of (wrote r j w) ≡ with_place x i v (mem_of r)
place-set r x i j w k v t l ek ej lv s = place-set-at r i w (let a = t.0 in omega arith) x j v (ej ∙ ap (λ (k : ℕ). 2 * i + k) ek) lv s
