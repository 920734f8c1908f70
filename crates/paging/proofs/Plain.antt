-- The four plain calls.
-- Assumes nothing.
use Rattle.std.proofs.Common.{◌≡◌, ℕ, ◌+◌, ◌*◌, ◌<◌, ◌≤◌, Bool, true, false, cond, not, T, eqb, ltb, ◌⊎◌, List, length, sym, refl, ap, ◌∙◌, subst, inl, inr, arith}
use mathlib.Core.Path.{fun_ext}
use mathlib.Core.List.{Memᴰ}
use lib.ListN.{length-replicate}
use Rattle.std.proofs.lemmas.Bool.{ltb-true, ltb-false}
use Rattle.device.specs.Sectors.{all_bytes}
use Rattle.device.specs.Layer.{Plan, gives, asks, Comes, CutShort}
use Rattle.device.specs.Priced.{CutIn, spent, PricedLayer}
use Rattle.device.proofs.Prices.{keeps, within, priced-over}
use Rattle.paging.specs.Layout.{numbers}
use Rattle.paging.specs.Pages.{PageCall, PageReply, page_in, said_in, blank_page, blank_label, same_bytes}
use Rattle.paging.specs.Judge.{State, set_at, used, lasting, PutAnswers, CannotPut, Answers, Down, kept, price}
use Rattle.paging.specs.Plain.{PlainCall, PlainState, PlainReply, last_of, PlainAnswers, PlainDown, plain_pages, Says, says, forwards, plain}
use Rattle.paging.specs.Promise.{PagesKept}
use Rattle.paging.proofs.Coding.{one-le, bytes-zeros}
use Rattle.paging.proofs.Logic.{by-eq}
use Rattle.paging.proofs.Count.{used-more}
use Rattle.paging.proofs.Store.{priced}

-- the plain state of a state: as it is, and what was synced is the last that a cut may leave
record Seen (s : State) (p : PlainState) : Type 0 where
  now : s.now ≡ p.now
  there : Memᴰ s.synced p.could
  oldest : (a : ℕ → List ℕ) → last_of a p.could ≡ s.synced
  steady : (n : ℕ) → s.volatile n ≡ false

abbrev Off : (size : ℕ) → State → PlainState → Type 0
Off z s p = Seen s p

abbrev On : (size : ℕ) → ℕ → State → PlainState → Type 0
On z m s p = (m ≡ z) × (8192 ≤ z) × Seen s p

down-seen : (z : ℕ) (s u : State) (p : PlainState) → Seen s p → Down z s u → (o : PlainState) × PlainDown p o × Seen u o
unfolding last_of
down-seen z s u p h (Down.leaves v l q) = (_, PlainDown.leaves p s.synced h.there, record { now = refl; there = Memᴰ.head refl; oldest = λ a. refl; steady = λ n. refl })

-- ONE CALL BELOW, by what it answers
abbrev Meant : ℕ → PlainCall → PageCall → (PageReply → PlainReply) → Type 0
Meant z c q out = (s t : State) (r : PageReply) (p : PlainState) → Seen s p → Answers z q s r t → (o : PlainState) × PlainAnswers z c p (out r) o × Seen t o

no-get : (z : ℕ) (n : ℕ) → n < numbers z → Meant z (PlainCall.Get n) (PageCall.Get n) (λ r. PlainReply.Page (page_in r))
no-get z n l s t r p h (Answers.gets k v i) = (p, subst (λ b. PlainAnswers z (PlainCall.Get n) p (PlainReply.Page b) p) (ap (λ f. f n) (sym h.now)) (PlainAnswers.gets n p (omega arith)), h)
no-get z n l s t r p h (Answers.gets_none k v i) = absurd (omega arith)

put-means : (z : ℕ) (n : ℕ) (b : List ℕ) → 8192 ≤ z → Meant z (PlainCall.Put n b) (PageCall.Put n b) (λ r. cond (said_in r) PlainReply.Fine PlainReply.NoRoom)
put-means z n b big s t r p h (Answers.puts (PutAnswers.done l (i, e, y) q)) = (
  _,
  PlainAnswers.puts n b p (omega arith) e y,
  record { now = ap (set_at n b) h.now; there = h.there; oldest = h.oldest; steady = λ k. by-eq k n (λ t. cond t false (s.volatile k) ≡ false) (λ _. refl) (λ _. h.steady k) },
)
put-means z n b big s t r p h (Answers.puts (PutAnswers.no_room q)) =
    let a = q.2 in
    let e = one-le (same_bytes (s.synced n) b) in
    let f = used-more (numbers z) z (set_at n b s.now) s.synced (omega arith) in
    let g : used z (set_at n b s.now) s.synced ≡ used z (set_at n b p.now) (last_of p.now p.could) = λ i. used z (set_at n b (h.now i)) (sym (h.oldest p.now) i) in
    (p, PlainAnswers.no_room n b p (omega arith), h)
put-means z n b big s t r p h (Answers.puts (PutAnswers.no_put q)) = (p, PlainAnswers.no_put n b p (wrong q), h)
  where
    wrong : CannotPut z n b → (z ≤ 8 * n) ⊎ ((length b ≡ 4096 → ⊥) ⊎ T (not (all_bytes b)))
    wrong (inl i) = inl (omega arith)
    wrong (inr i) = inr i

sync-means : (z : ℕ) → Meant z PlainCall.Sync' (PageCall.Sync blank_label) (λ r. PlainReply.Fine)
unfolding last_of
sync-means z s t r p h (Answers.syncs k v l e y q) =
    let a : lasting s.volatile s.now ≡ p.now = fun_ext (λ n. ap (λ b. cond b blank_page (s.now n)) (h.steady n)) ∙ h.now in
    (_, PlainAnswers.syncs p, record { now = h.now; there = Memᴰ.head a; oldest = λ f. sym a; steady = h.steady })
sync-means z s t r p h (Answers.no_sync k v (inl i)) = absurd (i (length-replicate {A = ℕ} 248 0))
sync-means z s t r p h (Answers.no_sync k v (inr i)) = absurd (go (all_bytes blank_label) (bytes-zeros 248) i)
  where
    go : (c : Bool) → T c → T (not c) → ⊥
    go true u v = elim v [ ]
    go false u v = elim u [ ]

most-put : (z : ℕ) (b : Bool) → cond b (2 * z + 16) 0 ≤ 2 * z + 16
most-put z true = omega arith
most-put z false = omega arith

most : (z : ℕ) (s : State) (c : PageCall) → price z s c ≤ 2 * z + 16
unfolding price
most z s (PageCall.Get n) = omega arith
most z s (PageCall.Put n b) = most-put z (eqb s.left 0)
most z s (PageCall.PutVolatile n b) = most-put z (eqb s.left 0)
most z s (PageCall.PutThrough n b) = most-put z (eqb s.left 0)
most z s (PageCall.Volatile n) = omega arith
most z s (PageCall.Spare from) = omega arith
most z s PageCall.Left = omega arith
most z s PageCall.Label = omega arith
most z s (PageCall.Sync l) = omega arith

module _ (z : ℕ) where
  -- what is promised of a call, and of one that is cut
  abbrev Does : ℕ → PlainCall → Plan PageCall PageReply Says → Type 0
  Does m c q = (s t : State) (p : PlainState) (x : Says) → On z m s p → (w : Comes (kept z) q s x t) → (spent (price z) w ≤ 2 * z + 16) × ((o : PlainState) × PlainAnswers z c p x.reply o × On z x.mem t o)

  abbrev DoesCut : ℕ → PlainCall → Plan PageCall PageReply Says → Type 0
  DoesCut m c q = (s u : State) (p : PlainState) → On z m s p → CutShort (kept z) q s u → (o : PlainState) × CutIn (plain_pages z) c p o × Off z u o

  ended : {A : Type 0} {a x : A} {s t : State} (w : Comes (kept z) (gives a) s x t) → (spent (price z) w ≡ 0) × (a ≡ x) × (s ≡ t)
  unfolding spent
  ended Comes.ends = (refl, refl, refl)

  call-does : (m : ℕ) (c : PlainCall) (q : PageCall) (out : PageReply → PlainReply) → Meant z c q out → Does m c (asks q (λ r. says m (out r)))
  unfolding spent
  call-does m c q out h s t p x (i, big, n) (Comes.goes_on {r = r} {t = v} a w) =
      let (e, f, g) = ended w in
      let (o, b, k) = h s v r p n a in
      let l = most z s q in
      (omega arith, (o, subst (λ y. PlainAnswers z c p y.reply o) f b, (ap (λ y. y.mem) (sym f) ∙ i, big, subst (λ v. Seen v o) g k)))

  call-cut : (m : ℕ) (c : PlainCall) (q : PageCall) (out : PageReply → PlainReply) → Meant z c q out → DoesCut m c (asks q (λ r. says m (out r)))
  call-cut m c q out h s u p (i, big, n) (CutShort.at_once d) = let (o, k, b) = down-seen z s u p n d in (o, CutIn.lost k, b)
  call-cut m c q out h s u p (i, big, n) (CutShort.in_call {r = r} {t = v} a d) = let (o, b, k) = h s v r p n a in let (w, e, f) = down-seen z v u o k d in (w, CutIn.done (out r) o b e, f)
  call-cut m c q out h s u p (i, big, n) (CutShort.later {r = r} {t = v} a (CutShort.at_once d)) = let (o, b, k) = h s v r p n a in let (w, e, f) = down-seen z v u o k d in (w, CutIn.done (out r) o b e, f)

  -- nothing is asked below
  says-does : (m : ℕ) (c : PlainCall) (y : PlainReply) → ((s : State) (p : PlainState) → Seen s p → (o : PlainState) × PlainAnswers z c p y o × Seen s o) → Does m c (says m y)
  says-does m c y h s t p x (i, big, n) w =
      let (e, f, g) = ended w in
      let (o, b, k) = h s p n in
      (omega arith, (o, subst (λ y. PlainAnswers z c p y.reply o) f b, (ap (λ y. y.mem) (sym f) ∙ i, big, subst (λ v. Seen v o) g k)))

  says-cut : (m : ℕ) (c : PlainCall) (y : PlainReply) → DoesCut m c (says m y)
  says-cut m c y s u p (i, big, n) (CutShort.at_once d) = let (o, k, b) = down-seen z s u p n d in (o, CutIn.lost k, b)

  commit-means : (s : State) (p : PlainState) → Seen s p → (o : PlainState) × PlainAnswers z PlainCall.Commit p PlainReply.Fine o × Seen s o
  unfolding last_of
  commit-means s p h = (_, PlainAnswers.commits p, record { now = h.now; there = Memᴰ.tail h.there; oldest = λ a. h.oldest p.now; steady = h.steady })

  get-does : (m n : ℕ) → m ≡ z → (b : Bool) → ltb n (numbers m) ≡ b → Does m (PlainCall.Get n) (cond b (asks (PageCall.Get n) (λ r. says m (PlainReply.Page (page_in r)))) (says m PlainReply.NoRoom))
  get-does m n i true e = call-does m (PlainCall.Get n) (PageCall.Get n) _ (no-get z n (rw i at (ltb-true n (numbers m) e)))
  get-does m n i false e = says-does m (PlainCall.Get n) PlainReply.NoRoom (λ s p h. (p, PlainAnswers.no_get n p (let l : numbers z ≤ n = rw i at (ltb-false n (numbers m) e) in omega arith), h))

  get-cut : (m n : ℕ) → m ≡ z → (b : Bool) → ltb n (numbers m) ≡ b → DoesCut m (PlainCall.Get n) (cond b (asks (PageCall.Get n) (λ r. says m (PlainReply.Page (page_in r)))) (says m PlainReply.NoRoom))
  get-cut m n i true e = call-cut m (PlainCall.Get n) (PageCall.Get n) _ (no-get z n (rw i at (ltb-true n (numbers m) e)))
  get-cut m n i false e = says-cut m (PlainCall.Get n) PlainReply.NoRoom

  all-does : (m : ℕ) (c : PlainCall) → Does m c (forwards c m)
  unfolding forwards
  all-does m (PlainCall.Get n) s t p x k w = get-does m n k.0 (ltb n (numbers m)) refl s t p x k w
  all-does m (PlainCall.Put n b) s t p x k w = call-does m (PlainCall.Put n b) (PageCall.Put n b) _ (put-means z n b k.1) s t p x k w
  all-does m PlainCall.Commit s t p x k w = says-does m PlainCall.Commit PlainReply.Fine commit-means s t p x k w
  all-does m PlainCall.Sync' s t p x k w = call-does m PlainCall.Sync' (PageCall.Sync blank_label) _ (sync-means z) s t p x k w

  all-cut : (m : ℕ) (c : PlainCall) → DoesCut m c (forwards c m)
  unfolding forwards
  all-cut m (PlainCall.Get n) s u p k w = get-cut m n k.0 (ltb n (numbers m)) refl s u p k w
  all-cut m (PlainCall.Put n b) s u p k w = call-cut m (PlainCall.Put n b) (PageCall.Put n b) _ (put-means z n b k.1) s u p k w
  all-cut m PlainCall.Commit s u p k w = says-cut m PlainCall.Commit PlainReply.Fine s u p k w
  all-cut m PlainCall.Sync' s u p k w = call-cut m PlainCall.Sync' (PageCall.Sync blank_label) _ (sync-means z) s u p k w

  rise : (s t : State) (p : PlainState) (m : ℕ) → 8192 ≤ z → Seen s p → (w : Comes (kept z) (gives z) s m t) → On z m t p × (spent (price z) w ≤ 0)
  rise s t p m big h w = let (e, f, g) = ended w in ((sym f, big, subst (λ v. Seen v p) g h), omega arith)

  rise-cut : (s u : State) (p : PlainState) → Seen s p → CutShort {A = ℕ} (kept z) (gives z) s u → (o : PlainState) × PlainDown p o × Seen u o
  rise-cut s u p h (CutShort.at_once d) = down-seen z s u p h d

forwarding : PricedLayer kept plain_pages plain (λ z. 0) price (λ z p c. 2 * z + 16) Off On
unfolding last_of
forwarding =
    record {
      begins = λ z. record { now = refl; there = Memᴰ.head refl; oldest = λ a. refl; steady = λ n. refl };
      rises = λ z big small s t p m h w. rise z s t p m big h w;
      rise_cut = λ z big small s u p h w. rise-cut z s u p h w;
      does = λ z m s t p c x h w. all-does z m c s t p x h w;
      does_cut = λ z m s u p c h w. all-cut z m c s u p h w;
      cut = λ z m s u p h d. down-seen z s u p h.2 d;
    }

pub pages-kept : PagesKept
pages-kept = (keeps (priced-over priced forwarding), within (priced-over priced forwarding))
