-- Writing to one file changes no other; what was written is read.
-- Assumes nothing.
use Rattle.std.proofs.Common.{◌≡◌, ℕ, ◌+◌, Bool, true, false, cond, not, ◌||◌, T, eqb, ltb, leb, List, [], ◌∷◌, length, take, drop, sym, refl, ap, ◌∙◌, subst, inl, inr, arith}
use mathlib.Core.List.{Memᴰ}
use Rattle.std.proofs.lemmas.Bool.{eqb-true, eq-eqb}
use Rattle.model.specs.Tree.{Body, File, body_at, with_body, bytes_of, is_file, name_count}
use Rattle.model.specs.Calls.{Handle, State, Out, Read, Write, Resize, No, Done, Bytes, handle_of, is_open, max_file_size, bytes_ok, written, resized, reads, writes, resizes, refused, replied, done_with, becomes, does}
use Rattle.model.specs.Laws.{OnlyIts, ReadsBack}
use Rattle.model.proofs.Facts.{is_true, holds, by-test, In, in_some}
use Rattle.model.proofs.Nodes.{file-has}
use Rattle.model.proofs.Changes.{put-at, put-else, filed-names}
use Rattle.model.proofs.Sweeps.{swept_at, stays, stays_open, Handles, handles-of}
use Rattle.model.proofs.Bytes.{reads-back}

-- the handle of a number is one of the handles, with that number
pub handle-in : (n : ℕ) (hs : List Handle) (x : Handle) → In x (handle_of n hs) → In x hs × (x.num ≡ n)
unfolding handle_of
handle-in n [] x i = absurd i
handle-in n (h ∷ hs) x i =
    by-test (eqb n h.num) {x = h ∷ []} {y = handle_of n hs} (λ z. In x z → In x (h ∷ hs) × (x.num ≡ n))
    (λ e. elim [ inl q ↦ (inl q, ap (λ (z : Handle). z.num) (sym q) ∙ sym (eqb-true n h.num e)) | inr j ↦ absurd j ])
    (λ e j. let r = handle-in n hs x j in (inr r.0, r.1)) i

pub in_mem : {A : Type 0} (xs : List A) (x : A) → In x xs → Memᴰ x xs
in_mem [] x i = absurd i
in_mem (y ∷ xs) x (inl e) = Memᴰ.head (sym e)
in_mem (y ∷ xs) x (inr i) = Memᴰ.tail (in_mem xs x i)

module _
    (s : State) (h k : ℕ) (ok : Handles s.now s.handles) (stay : T (eqb k 0 || ltb 0 (name_count s.now k) || is_open s.handles k)) (apart : (x : Handle) → Memᴰ x s.handles → x.num ≡ h → x.node ≡ k → ⊥)
  where
    abbrev Same : Out → Type 0
    Same o = body_at o.state.now k ≡ body_at s.now k

    -- a file that is open to write gets other bytes
    filed : (x : Handle) (new : List ℕ) → In x s.handles × (x.num ≡ h) → T x.writes → Same (done_with (with_body x.node (File new) s.now) s)
    filed x new i w =
        swept_at (is_open s.handles) (with_body x.node (File new) s.now) k (is_true (stays (is_open s.handles) (with_body x.node (File new) s.now) k) (subst (λ m. T (eqb k 0 || ltb 0 m || is_open s.handles k)) (sym (filed-names s.now x.node new ((ok x i.0).1 w) k)) stay)) ∙
        put-else s.now x.node (File new) k (λ e. apart x (in_mem s.handles x i.0) i.1 (sym e))

    abbrev Ours : List Handle → Type 0
    Ours hs = (x : Handle) → In x hs → In x s.handles × (x.num ≡ h)

    ours : Ours (handle_of h s.handles)
    ours x i = handle-in h s.handles x i

    writes-only : (from : ℕ) (bs : List ℕ) (hs : List Handle) → Ours hs → Same (writes from bs hs s)
    unfolding writes
    writes-only from bs [] into = refl
    writes-only from bs (x ∷ more) into =
        by-test x.writes Same (λ w. by-test (leb (from + length bs) max_file_size) Same (λ _. filed x (written from bs (bytes_of (body_at s.now x.node))) (into x (inl refl)) (holds w)) (λ _. refl)) (λ _. refl)

    resizes-only : (n : ℕ) (hs : List Handle) → Ours hs → Same (resizes n hs s)
    unfolding resizes
    resizes-only n [] into = refl
    resizes-only n (x ∷ more) into =
        by-test x.writes Same (λ w. by-test (leb n max_file_size) Same (λ _. filed x (resized n (bytes_of (body_at s.now x.node))) (into x (inl refl)) (holds w)) (λ _. refl)) (λ _. refl)

    only : ((from : ℕ) (bs : List ℕ) → Same (does (Write h from bs) s)) × ((n : ℕ) → Same (does (Resize h n) s))
    unfolding does
    only = (λ from bs. by-test (ltb 65536 (length bs) || not (bytes_ok bs)) Same (λ _. refl) (λ _. writes-only from bs (handle_of h s.handles) ours), λ n. resizes-only n (handle_of h s.handles) ours)

pub only_its : OnlyIts
only_its s h k sound stay apart = only s h k (handles-of s sound) stay apart

-- what was written is read
no-done : {k : ℕ} {P : Type 0} → No k ≡ Done → P
no-done e = let z : ◌≡◌ {A = ℕ} 0 1 = cc in absurd (omega arith)

module _ (s : State) (from : ℕ) (bs : List ℕ) (ok : Handles s.now s.handles) where
  abbrev new : Handle → List ℕ
  new x = written from bs (bytes_of (body_at s.now x.node))

  -- the file as it is then
  filed-at : (x : Handle) → In x s.handles → T x.writes → body_at (becomes (with_body x.node (File (new x)) s.now) s.handles s).now x.node ≡ File (new x)
  filed-at x i w =
      let f = with_body x.node (File (new x)) s.now in
      swept_at (is_open s.handles) f x.node (stays_open (is_open s.handles) f x.node (in_some (λ (y : Handle). eqb y.node x.node) s.handles x i (holds (eq-eqb x.node x.node refl)))) ∙
      put-at s.now x.node (File (new x)) (file-has x.node s.now.nodes ((ok x i).1 w))

  read-file : (x : Handle) (more : List Handle) (t : State) → body_at t.now x.node ≡ File (new x) → (reads from (length bs) (x ∷ more) t).reply ≡ Bytes bs
  unfolding reads is_file bytes_of
  read-file x more t e =
      ap (λ (b : Body). (cond (is_file b) (replied (Bytes (take (length bs) (drop from (bytes_of b)))) t) (refused 4 t)).reply) e ∙ ap Bytes (reads-back from bs (bytes_of (body_at s.now x.node)))

  -- by the same handle, and only where it was done
  abbrev Back : List Handle → Out → Type 0
  Back hs o = o.reply ≡ Done → (o.state.handles ≡ s.handles) × ((reads from (length bs) hs o.state).reply ≡ Bytes bs)

  writes-back : (hs : List Handle) → ((x : Handle) → In x hs → In x s.handles) → Back hs (writes from bs hs s)
  unfolding writes
  writes-back [] into = no-done
  writes-back (x ∷ more) into =
      by-test x.writes (Back (x ∷ more))
      (λ w. by-test (leb (from + length bs) max_file_size) (Back (x ∷ more)) (λ _ _. (refl, read-file x more (becomes (with_body x.node (File (new x)) s.now) s.handles s) (filed-at x (into x (inl refl)) (holds w)))) (λ _. no-done)) (λ _. no-done)

pub reads_back_lem : ReadsBack
unfolding does
reads_back_lem s h from bs sound =
    by-test (ltb 65536 (length bs) || not (bytes_ok bs)) (λ (o : Out). o.reply ≡ Done → (does (Read h from (length bs)) o.state).reply ≡ Bytes bs) (λ _. no-done)
    (λ small d.
    let o = writes from bs (handle_of h s.handles) s in
    let r = writes-back s from bs (handles-of s sound) (handle_of h s.handles) (λ x i. (handle-in h s.handles x i).0) d in
    ap (λ b. (cond b (refused 10 o.state) (reads from (length bs) (handle_of h o.state.handles) o.state)).reply) (fits (ltb 65536 (length bs)) (not (bytes_ok bs)) small) ∙ (ap (λ z. (reads from (length bs) (handle_of h z) o.state).reply) r.0 ∙ r.1))
  where
    fits : (a b : Bool) → (a || b) ≡ false → a ≡ false
    fits true b e = e
    fits false b e = refl
