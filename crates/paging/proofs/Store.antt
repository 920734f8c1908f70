-- The store keeps to its judge, whatever happens, at its prices.
-- Assumes nothing.
use Rattle.std.proofs.Common.{◌≡◌, ℕ, ◌+◌, ◌%◌, ◌<◌, ◌≤◌, Bool, true, false, cond, not, T, eqb, List, sym, refl, ◌∙◌, subst, inl, inr, arith}
use Rattle.std.proofs.lemmas.Bool.{false≢true, ne_eqb}
use Rattle.device.specs.Sectors.{Device, blank_device, all_bytes}
use Rattle.device.specs.Plays.{io_of}
use Rattle.device.specs.Priced.{Priced}
use Rattle.device.proofs.Prices.{keeps, within, tied, adds-up}
use Rattle.paging.specs.Layout.{last_node, rooms}
use Rattle.paging.specs.Pages.{PageCall, Get, Put, PutVolatile, PutThrough, Volatile, Spare, Left, Label, Sync, PageReply, Said, replied, same_bytes, blank_page, blank_label}
use Rattle.paging.specs.Store.{Stored, store_flow, store}
use Rattle.paging.specs.Judge.{State, is_blank, put_price, Putting, PutAnswers, CanPut, CannotPut, Answers, kept, price}
use Rattle.paging.specs.Promise.{StoreKept, CallsPriced, PlansPriced, PutFinds, SpareFinds, LeftMeans, Roomy, AlwaysKnown}
use Rattle.paging.proofs.Coding.{one-le, place-blank, bit-blank, label-blank, known-blank}
use Rattle.paging.proofs.Logic.{Whole, whole-blank, whole-cut, Wp, wp-run, wp-upto, wp-fair, wp-map, wp-whole}
use Rattle.paging.proofs.Count.{count-all}
use Rattle.paging.proofs.Inv.{page_at, Off, Runs, Ends, Cut, Rested, resting, downs, safe-cut}
use Rattle.paging.proofs.Calls.{get-ok, put-ok, volatile-ok, spare-ok, left-ok, label-ok}
use Rattle.paging.proofs.Syncing.{sync-ok}
use Rattle.paging.proofs.Opening.{Waits, opens-ok}
use Rattle.paging.proofs.Few.{few-does, few-opens}

does_at : (t : Stored) (d : Device) (s : State) → Runs t.mem.size t d s → Whole d → (c : PageCall) → Wp t.mem.size (Cut t.mem.size c s) (Ends t.mem.size c s) (io_of (store_flow c t)) d
does_at t d s r w (Get n) = get-ok t d s r n
does_at t d s r w (Put n b) = put-ok t d s r n w b Putting.by_put
does_at t d s r w (PutVolatile n b) = put-ok t d s r n w b Putting.by_put_volatile
does_at t d s r w (PutThrough n b) = put-ok t d s r n w b Putting.by_put_through
does_at t d s r w (Volatile n) = volatile-ok t d s r n
does_at t d s r w (Spare from) = spare-ok t d s r from
does_at t d s r w Left = left-ok t d s r
does_at t d s r w Label = label-ok t d s r
does_at t d s r w (Sync label) = sync-ok t d s r label

-- sectors are whole, with power and without
abbrev pub OffStore : ℕ → Device → State → Type 0
OffStore z d s = Whole d × Rested z d s

abbrev pub OnStore : ℕ → Stored → Device → State → Type 0
OnStore z t d s = Whole d × Runs z t d s

abbrev Ended : ℕ → PageCall → State → record { reply : PageReply; mem : Stored } → Device → Type 0
Ended z c s a e = (t : State) × Answers z c s a.reply t × Runs z a.mem e t

does-ok : (z : ℕ) (t : Stored) (d : Device) (s : State) → OnStore z t d s → (c : PageCall) → Wp z (λ e. Whole e × Cut z c s e) (λ a e. Whole e × Ended z c s a e) (store.does c t) d
does-ok z t d s (w, r) c =
    wp-whole w (wp-map (λ x. record { reply = replied c x.0; mem = x.1 }) (λ e q. q) (λ a e q. q)
    (subst (λ z. Runs z t d s → Wp z (Cut z c s) (Ends z c s) (io_of (store_flow c t)) d) r.up.sized (λ r. does_at t d s r w c) r))

up_ok : (z : ℕ) (d : Device) (s : State) → 8192 ≤ z → z ≤ 1099511627776 → OffStore z d s → Wp z (λ e. Whole e × Waits z s e) (λ t e. Whole e × Runs z t e s) (store.opens z) d
up_ok z d s big small (w, r) = wp-whole w (wp-map (λ x. x.0) (λ e q. q) (λ a e q. q) (opens-ok z d s big small r))

blank-off : (z : ℕ) → Off z blank_device (λ n. blank_page) blank_label
unfolding page_at
blank-off z =
    record {
      still = λ s. refl;
      sel = λ k. false;
      m = λ n. 0;
      taken = λ p. false;
      sane = record { apart = λ n k p a b c e. absurd (omega arith); within = λ n p a c. absurd (omega arith) };
      full = λ n p l e. absurd (omega arith);
      marks = record { marked = λ n p l e. absurd (omega arith); marks = λ p e. absurd (false≢true e) };
      holds = record {
        known = known-blank;
        labelled = label-blank;
        rooting = λ b l i. bit-blank b;
        rests = record { bitting = λ p o b l i. bit-blank b; mapping = λ n l. place-blank (n % 64); paging = λ n l. refl };
      };
    }

pub priced : Priced kept store (λ z. 1 + last_node z) price OffStore OnStore
unfolding blank-off
priced =
    record {
      begins = λ z. (whole-blank, record { off = blank-off z; lefts = sym (count-all (rooms z)); nows = λ n. refl; steady = λ n. refl });
      comes_up = λ z big small d s r. let w = up_ok z d s big small r in (wp-fair w, wp-run w, few-opens z d);
      up_cut = λ z big small d f g s r u c. let (w, q) = wp-upto u (up_ok z d s big small r) in let (v, k, o) = q g c in (v, k, (whole-cut c w, o));
      answers = λ z m d s r c. let w = does-ok z m d s r c in let (h, (t, a, o)) = wp-run w in (wp-fair w, few-does z m d s r.1 c, (t, a, (h, o)));
      call_cut = λ z m d f g s r c u k. let (w, q) = wp-upto u (does-ok z m d s r c) in let (v, i, o) = q g k in (v, i, (whole-cut k w, o));
      cut = λ z m d g s (w, r) k. let u = r.up in let o = safe-cut u.ready.old_sane u.old_full u.ready.old_marks u.safe k in (_, downs s o, (whole-cut k w, resting o));
    }

pub store_kept : StoreKept
store_kept = (keeps priced, within priced)

pub calls-priced : CallsPriced
calls-priced z big small es m d t = let (s, a, g) = tied priced z big small t in (s, a, λ c. (priced.answers z m d s g c).1)

pub plans-priced : (A : Type 0) → PlansPriced A
plans-priced A z big small es m d t = let (s, a, g) = tied priced z big small t in (s, a, λ q. let (v, w, h, n) = adds-up priced z q m d s g in (v, w, n))

pub always-known : AlwaysKnown
always-known z big small es m d t = let (s, a, g) = tied priced z big small t in g.1.known

-- WHAT LEFT MEANS
some_left : (s : State) (n : ℕ) → 0 < s.left → cond (eqb s.left 0) n 0 ≡ 0
some_left s n l = rw (ne_eqb s.left 0 (omega arith))

pub not-both : (z n : ℕ) (b : List ℕ) → CanPut z n b → CannotPut z n b → ⊥
not-both z n b (l, e, y) (inl h) = omega arith
not-both z n b (l, e, y) (inr (inl h)) = h e
not-both z n b (l, e, y) (inr (inr h)) = go (all_bytes b) y h
  where
    go : (c : Bool) → T c → T (not c) → ⊥
    go true u v = elim v [ ]
    go false u v = elim u [ ]

pub put-priced : {c : PageCall} {n : ℕ} {b : List ℕ} {w : Bool} (z : ℕ) (s : State) → Putting c n b w → price z s c ≡ put_price z s
unfolding price
put-priced z s Putting.by_put = refl
put-priced z s Putting.by_put_volatile = refl
put-priced z s Putting.by_put_through = refl

pub put-answers : {c : PageCall} {z n : ℕ} {b : List ℕ} {w : Bool} {s t : State} {r : PageReply} → Putting c n b w → Answers z c s r t → PutAnswers z n b w s r t
put-answers Putting.by_put (Answers.puts a) = a
put-answers Putting.by_put_volatile (Answers.puts_volatile a) = a
put-answers Putting.by_put_through (Answers.puts_through a) = a

put-finds : PutFinds
put-finds z n b w c s t r g ok o a = ((go (put-answers g a)).0, (go (put-answers g a)).1, put-priced z s g ∙ some_left s _ o)
  where
    go : {r : PageReply} {t : State} → PutAnswers z n b w s r t → (r ≡ Said true) × (s.left ≤ t.left + 1)
    go (PutAnswers.done l y q) = (refl, let h = one-le (not (is_blank b)) in omega arith)
    go (PutAnswers.no_room q) = absurd (omega (arith, q.0))
    go (PutAnswers.no_put q) = absurd (not-both z n b ok q)

spare-finds : SpareFinds
spare-finds z from s t r o (Answers.spares f n v a b e) = (n, refl, a, b, e)
spare-finds z from s t r o (Answers.no_spare f v e q) = absurd (omega arith)

pub left-means : LeftMeans
left-means = (put-finds, spare-finds)

pub roomy : Roomy
roomy = (λ z big. omega arith, λ z n b s big q. omega (arith, q.2, one-le (same_bytes (s.synced n) b)))
