-- The layer that syncs and refuses all else is right above the judge of pages.
-- Assumes nothing.
use Rattle.std.proofs.Common.{◌≡◌, ℕ, ◌≤◌, Bool, true, false, cond, not, T, List, length, Some, refl, ap, inl, inr, arith}
use mathlib.Core.List.Memᴰ
use Rattle.std.proofs.lemmas.Bool.{false≢true}
use Rattle.device.specs.Sectors.{all_bytes}
use Rattle.device.specs.Layer.{Plan, gives, asks, Comes, CutShort}
use Rattle.device.specs.Plays.{plan_of, plan_then}
use Rattle.device.specs.Priced.{CutIn, spent, PricedLayer}
use Rattle.paging.specs.Pages.{PageCall, PageReply, Label, told_in}
use Rattle.paging.specs.Pages as pages
use Rattle.paging.specs.Judge.{kept, price, still}
use Rattle.paging.specs.Judge as judge
use Rattle.model.specs.Tree.{blank, swept, keep}
use Rattle.model.specs.Calls.{Call, Open, Close, Read, Write, Resize, Stat, StatOpen, MakeFolder, Remove, RemoveFolder, NextName, Rename, Join, MakeLink, ReadLink, Sync, Reply, No, Done, State, fresh, does}
use Rattle.model.specs.Answers.{Answers, Down, leaves, as-meant, not_yet}
use Rattle.calls.specs.Promise.{files, Whole}
use Rattle.calls_on_store.specs.Files.{built, FilesMem, up_flow, files_layer, machine}
use Rattle.calls_on_store.proofs.Wholly.{wholly}

abbrev LabelOk : List ℕ → Type 0
LabelOk l = (length l ≡ 248) × T (all_bytes l)

-- the tree is blank, and nothing is open
abbrev Off : ℕ → judge.State → State → Type 0
Off z s v = LabelOk s.label × (v ≡ fresh blank)

abbrev On : ℕ → FilesMem → judge.State → State → Type 0
On z m s v = LabelOk s.label × (m.known ≡ true) × LabelOk m.label × (v ≡ fresh blank)

none-swept : swept (λ n. false) blank ≡ blank
unfolding keep
none-swept = refl

-- a cut leaves the same
fallen : (v : State) → v ≡ fresh blank → (o : State) × Down v o × (o ≡ fresh blank)
fallen v e = (fresh (swept (λ n. false) blank), rw e (leaves (fresh blank) blank (Memᴰ.head refl)), ap fresh none-swept)

label-down : {z : ℕ} {s u : judge.State} → judge.Down z s u → LabelOk s.label → LabelOk u.label
label-down (judge.Down.leaves s l r) h = h

label-asked : {z : ℕ} {s t : judge.State} {r : PageReply} → judge.Answers z Label s r t → (t ≡ s) × (told_in Label r ≡ Some s.label)
unfolding told_in
label-asked (judge.Answers.labels s) = (refl, refl)

clash : (b : Bool) → T b → T (not b) → ⊥
clash true a b = b
clash false a b = a

label-synced : {z : ℕ} {l : List ℕ} {s t : judge.State} {r : PageReply} → judge.Answers z (pages.Sync l) s r t → LabelOk l → LabelOk t.label
label-synced (judge.Answers.syncs l s n a b c) h = (a, b)
label-synced (judge.Answers.no_sync l s (inl a)) h = absurd (a h.0)
label-synced (judge.Answers.no_sync l s (inr a)) h = absurd (clash (all_bytes l) h.1 a)

label-blank : LabelOk pages.blank_label
unfolding all_bytes
label-blank = (refl, tt)

-- COMING UP
abbrev up_plan : Plan PageCall PageReply FilesMem
up_plan = plan_of pages.page_replies up_flow

rise : (z : ℕ) (s t : judge.State) (v : State) (m : FilesMem) → Off z s v → (w : Comes (kept z) up_plan s m t) → On z m t v × (spent (price z) w ≤ 0)
unfolding plan_of spent price told_in
rise z s t v m (h, e) (Comes.goes_on (judge.Answers.labels _) Comes.ends) = ((h, refl, h, e), omega arith)

label-short : {z : ℕ} {s u : judge.State} → LabelOk s.label → CutShort (kept z) up_plan s u → LabelOk u.label
unfolding plan_of told_in
label-short h (CutShort.at_once d) = label-down d h
label-short h (CutShort.in_call (judge.Answers.labels s) d) = label-down d h
label-short h (CutShort.later (judge.Answers.labels s) (CutShort.at_once d)) = label-down d h

-- EACH CALL, by whether it is built
abbrev by_built : Bool → FilesMem → Plan PageCall PageReply (record { reply : Reply; mem : FilesMem })
by_built b m =
    plan_then {A = Reply × FilesMem} (cond b (asks (pages.Sync m.label) (λ r. gives (Done, m))) (gives (No 12, m))) (λ x. gives (record { reply = x.0; mem = x.1 }))

-- a sync is what the meaning says
synced : (z : ℕ) (c : Call) (v : State) → built c ≡ true → v ≡ fresh blank → Answers built z c v Done (fresh blank)
unfolding built does
synced z Sync v e i = rw i (as-meant Sync (fresh blank) tt)
synced z (Open way w p) v e i = absurd (false≢true e)
synced z (Close h) v e i = absurd (false≢true e)
synced z (Read h from most) v e i = absurd (false≢true e)
synced z (Write h from bs) v e i = absurd (false≢true e)
synced z (Resize h n) v e i = absurd (false≢true e)
synced z (Stat p) v e i = absurd (false≢true e)
synced z (StatOpen h) v e i = absurd (false≢true e)
synced z (MakeFolder p) v e i = absurd (false≢true e)
synced z (Remove p) v e i = absurd (false≢true e)
synced z (RemoveFolder p) v e i = absurd (false≢true e)
synced z (NextName h n) v e i = absurd (false≢true e)
synced z (Rename p q) v e i = absurd (false≢true e)
synced z (Join p q) v e i = absurd (false≢true e)
synced z (MakeLink to p) v e i = absurd (false≢true e)
synced z (ReadLink p) v e i = absurd (false≢true e)

done : (z : ℕ) (s t : judge.State) (v : State) (m : FilesMem) (c : Call) (x : record { reply : Reply; mem : FilesMem }) (b : Bool) → built c ≡ b → On z m s v → (w : Comes (kept z) (by_built b m) s x t) →
    (spent (price z) w ≤ 0) × ((o : State) × Answers built z c v x.reply o × On z x.mem t o)
unfolding plan_then spent price
done z s t v m c x true e (h, k, l, i) (Comes.goes_on a Comes.ends) = (omega arith, (fresh blank, synced z c v e i, (label-synced a l, k, l, refl)))
done z s t v m c x false e (h, k, l, i) Comes.ends = (omega arith, (v, not_yet c v (rw e tt), (h, k, l, i)))

-- where it may be cut: before the sync, or after it
cut_at : (z : ℕ) (s u : judge.State) (m : FilesMem) (b : Bool) → LabelOk s.label → LabelOk m.label → CutShort (kept z) (by_built b m) s u → LabelOk u.label
unfolding plan_then
cut_at z s u m true h l (CutShort.at_once d) = label-down d h
cut_at z s u m true h l (CutShort.in_call a d) = label-down d (label-synced a l)
cut_at z s u m true h l (CutShort.later a (CutShort.at_once d)) = label-down d (label-synced a l)
cut_at z s u m false h l (CutShort.at_once d) = label-down d h

-- on a card whose form is known
abbrev by_known : Bool → Call → FilesMem → Plan PageCall PageReply (record { reply : Reply; mem : FilesMem })
by_known k c m =
    plan_then {A = Reply × FilesMem} (cond k (cond (built c) (asks (pages.Sync m.label) (λ r. gives (Done, m))) (gives (No 12, m))) (gives (No 19, m))) (λ x. gives (record { reply = x.0; mem = x.1 }))

done-known : (z : ℕ) (s t : judge.State) (v : State) (m : FilesMem) (c : Call) (x : record { reply : Reply; mem : FilesMem }) (k : Bool) → k ≡ true → On z m s v → (w : Comes (kept z) (by_known k c m) s x t) →
    (spent (price z) w ≤ 0) × ((o : State) × Answers built z c v x.reply o × On z x.mem t o)
done-known z s t v m c x true e on w = done z s t v m c x (built c) refl on w
done-known z s t v m c x false e on w = absurd (false≢true e)

cut-known : (z : ℕ) (s u : judge.State) (m : FilesMem) (c : Call) (k : Bool) → k ≡ true → LabelOk s.label → LabelOk m.label → CutShort (kept z) (by_known k c m) s u → LabelOk u.label
cut-known z s u m c true e h l w = cut_at z s u m (built c) h l w
cut-known z s u m c false e h l w = absurd (false≢true e)

layer : PricedLayer kept (files built) files_layer (λ z. 0) price (λ z s c. 0) Off On
unfolding plan_of
layer =
    record {
      begins = λ z. (label-blank, refl);
      rises = λ z big small s t v m o w. rise z s t v m o w;
      rise_cut = λ z big small s u v o w. let (f, d, e) = fallen v o.1 in (f, d, (label-short o.0 w, e));
      does = λ z m s t v c x on w. done-known z s t v m c x m.known on.1 on w;
      does_cut = λ z m s u v c on w. let (f, d, e) = fallen v on.3 in (f, CutIn.lost d, (cut-known z s u m c m.known on.1 on.0 on.2 w, e));
      cut = λ z m s u v on d. let (f, k, e) = fallen v on.3 in (f, k, (label-down d on.0, e));
    }

pub whole : (frames : ℕ) → Whole built (machine frames)
whole = wholly layer (λ size low. omega arith) (λ size s c. omega arith)
