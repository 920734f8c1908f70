-- What the code asks of the store is what the machine does on the device.
-- Assumes nothing.
use Rattle.std.proofs.Common.{◌≡◌, ℕ, ◌*◌, ◌≤◌, Bool, true, false, cond, ltb, List, Some, None, Ok, Err, Option, Result, sym, refl, ap, ◌∙◌, subst, Bor, MutBor}
use mathlib.Core.Path.{subst⁻¹}
use Rattle.std.proofs.lemmas.Bool.{le-ltb}
use Rattle.std.specs.Option.{option_map}
use Rattle.std.specs.Result.{MatchResult}
use Rattle.device.specs.Program.{Io, and_then}
use Rattle.device.specs.Layer.{through}
use Rattle.device.specs.Flow.{Flow, Runs, is}
use Rattle.device.specs.Plays.{Asked, Told, Plays, Follows, plan_of, among}
use Rattle.device.proofs.Loops.{taken, left}
use Rattle.device.proofs.Flows.{follows_then, flow-follows}
use Rattle.device.proofs.Plays.{plays-then, plays-through}
use Rattle.paging.specs.Layout.{numbers}
use Rattle.paging.specs.Pages.{PageCall, PageReply, Label, blank_label, page_replies}
use Rattle.paging.specs.Pages as pages
use Rattle.paging.specs.Sectors.{root_known}
use Rattle.paging.specs.Store.{Stored, open_flow, store_flow}
use Rattle.paging.proofs.Played.{plan-plays, flow-follows-store, open-plays}
use Rattle.pages.specs.declared.store.Store.{Store}
use Rattle.pages.specs.declared.store.OpenError.TheVariants as why
use Rattle.pages.specs.Serving.{stored_of}
use Rattle.pages.specs.Serving as serving
use Rattle.model.specs.declared.Call.{Call as RustCall}
use Rattle.model.specs.declared.Call.TheVariants as call
use Rattle.model.specs.Of.{call_of}
use Rattle.model.specs.Calls.{Call, Reply}
use Rattle.model.specs.Calls as calls
use Rattle.caching.specs.Frames.{fresh}
use Rattle.caching.specs.Cache.{cache_flow}
use Rattle.cache.specs.Serving.{cache_of}
use Rattle.cache.specs.Opening.{store_below}
use Rattle.calls_on_store.specs.Files.{built, FilesMem, up_flow, call_flow, pages_below, machine}
use Rattle.calls_on_store.specs.Of.{OnStore, kept, raised, device_below, pages_mem, CacheGoes, open_fault, up_reads}
use Rattle.calls.specs.declared.OpenError.TheVariants.{TooFewSectors, TooManySectors, TooFewWords}

module _ {D : Type 0} (steps : D → (c : Asked) → Told c → D → Type 0) (frames : ℕ) where
  abbrev dev : MutBor (Store D) → D
  dev s = s.now.device

  abbrev stored : MutBor (Store D) → Stored
  stored s = stored_of s.now

  -- a call of the cache
  cache-plays : (c : PageCall) (r : PageReply) (s t : OnStore D) → among page_replies (CacheGoes steps) s c r t →
      Plays steps ((pages_below frames).does c (pages_mem frames s)) (device_below s) (device_below t) (record { reply = r; mem = pages_mem frames t })
  cache-plays c r s t (x, e, q) =
      subst⁻¹ (λ y. Plays steps ((pages_below frames).does c (pages_mem frames s)) (device_below s) (device_below t) (record { reply = y; mem = pages_mem frames t })) e
      (plays-then _ (plan-plays steps dev stored (follows_then _ (flow-follows-store steps dev stored (cache_flow c (cache_of s)) s.pages t.pages (x, cache_of t) q) Follows.ends)) Plays.ends)

  flow-plays-pages : {A : Type 0} (p : Flow PageCall pages.Told A) (s t : OnStore D) (a : A) → Runs (CacheGoes steps) p s t a →
      Follows (among page_replies (CacheGoes steps)) (plan_of page_replies p) s t a
  flow-plays-pages p s t a q = flow-follows page_replies (CacheGoes steps) p s t a q

  pub plays-call : (c : Call) (m n : FilesMem) (s t : OnStore D) (r : Reply) → Runs (CacheGoes steps) (call_flow c m) s t (r, n) →
      Plays steps ((machine frames).does c (record { below = pages_mem frames s; above = m })) (device_below s) (device_below t) (record { reply = r; mem = record { below = pages_mem frames t; above = n } })
  plays-call c m n s t r q =
      plays-then _ (plays-through (pages_below frames) device_below (pages_mem frames) cache-plays (follows_then _ (flow-plays-pages (call_flow c m) s t (r, n) q) Follows.ends)) Plays.ends

  -- the store comes up, and nothing is in a frame
  pages-open : (size reads : ℕ) (d : D) (s : OnStore D) → Runs steps (open_flow size) d (device_below s) (stored_of (store_below s), reads) → cache_of s ≡ fresh (numbers size) frames →
      Plays steps ((pages_below frames).opens size) d (device_below s) (pages_mem frames s)
  unfolding through and_then
  pages-open size reads d s q e =
      plays-then _ (open-plays steps dev stored size reads d s.pages q)
      (subst⁻¹ (λ x. Plays {A = (pages_below frames).Mem} steps (Io.answer (record { below = stored_of (store_below s); above = fresh (numbers size) frames })) (device_below s) (device_below s) (record { below = stored_of (store_below s); above = x })) e Plays.ends)

  pub plays-open : (size reads : ℕ) (d : D) (s t : OnStore D) (m : FilesMem) → Runs steps (open_flow size) d (device_below s) (stored_of (store_below s), reads) → cache_of s ≡ fresh (numbers size) frames →
      Runs (CacheGoes steps) up_flow s t m → Plays steps ((machine frames).opens size) d (device_below t) (record { below = pages_mem frames t; above = m })
  plays-open size reads d s t m q e u =
      plays-then _ (pages-open size reads d s q e)
      (plays-then _ (plays-through (pages_below frames) device_below (pages_mem frames) cache-plays (flow-plays-pages up_flow s t m u)) Plays.ends)

-- COMING UP
-- the label tells whether the form is known
module _ {D : Type 0} (steps : D → (c : Asked) → Told c → D → Type 0) where
  pub up-runs : (s t : OnStore D) (told : Option (List ℕ)) → CacheGoes steps s Label told t → Runs (CacheGoes steps) up_flow s t (kept told)
  up-runs s t (Some l) q = (Some l, t, q, (λ x i. (refl, let j : l ≡ x = cc in ap (λ (l : List ℕ). kept (Some l)) (sym j)), λ i. absurd (let z : ◌≡◌ {A = Option (List ℕ)} (Some l) None = i in cc)))
  up-runs s t None q = (None, t, q, (λ x i. absurd (let z : ◌≡◌ {A = Option (List ℕ)} None (Some x) = i in cc), λ i. (refl, refl)))

  -- it tells how many sectors it has read
  told-reads : (size n : ℕ) (d t : D) (x : Stored) → Runs steps (open_flow size) d t (x, n) → n ≡ up_reads size x.known
  told-reads size n d t x (root, u, s, (h, f)) = go (root_known root) refl
    where
      go : (b : Bool) → root_known root ≡ b → n ≡ up_reads size x.known
      go true e = let (m, v, r, (i, j)) = h e in sym (ap (λ (y : Stored × ℕ). y.1) j) ∙ ap (λ (y : Stored × ℕ). up_reads size y.0.known) j
      go false e = let (i, j) = f e in sym (ap (λ (y : Stored × ℕ). y.1) j) ∙ ap (λ (y : Stored × ℕ). up_reads size y.0.known) j

  -- the cache hands the label of the store on
  known-below : (s t : OnStore D) (told : Option (List ℕ)) → CacheGoes steps s Label told t → (stored_of (store_below s)).known ≡ (kept told).known
  unfolding cache_flow store_flow
  known-below s t told (l, y, (e, i), (j, k)) = go (stored_of (store_below s)).known told (ap (λ x. x.0) i ∙ ap (λ x. x.0) k)
    where
      go : (a : Bool) (told : Option (List ℕ)) → cond a (Some (stored_of (store_below s)).label) None ≡ told → a ≡ (kept told).known
      go true told z = ap (λ (o : Option (List ℕ)). (kept o).known) z
      go false told z = ap (λ (o : Option (List ℕ)). (kept o).known) z

  pub up-told : (size n : ℕ) (d : D) (s t : OnStore D) (told : Option (List ℕ)) → Runs steps (open_flow size) d (device_below s) (stored_of (store_below s), n) → CacheGoes steps s Label told t → n ≡ up_reads size (kept told).known
  up-told size n d s t told q u = told-reads size n d (device_below s) (stored_of (store_below s)) q ∙ ap (up_reads size) (known-below s t told u)

-- CALLS
module _ {D : Type 0} (steps : D → (c : Asked) → Told c → D → Type 0) where
  pub runs_sync : (s t : OnStore D) (o : Option (List ℕ)) (l : List ℕ) → o ≡ Some l → CacheGoes steps s (pages.Sync l) tt t → Runs (CacheGoes steps) (call_flow calls.Sync (kept o)) s t (calls.Done, kept o)
  unfolding built
  runs_sync s t o l e q = subst (λ o. Runs (CacheGoes steps) (call_flow calls.Sync (kept o)) s t (calls.Done, kept o)) (sym e) (taken (is _) refl (taken (is _) refl (tt, t, q, (refl, refl))))

  pub runs_other : (s : OnStore D) (o : Option (List ℕ)) (l : List ℕ) (c : Call) → o ≡ Some l → built c ≡ false → Runs (CacheGoes steps) (call_flow c (kept o)) s s (calls.No 12, kept o)
  runs_other s o l c e b = taken (is _) (ap (λ (o : Option (List ℕ)). (kept o).known) e) (left (is _) b (refl, refl))

-- the file system's fault is the store's, where enough pages are lent
pub fault : (sectors lent words : ℕ) → 29 ≤ lent → open_fault sectors lent words ≡ option_map raised (serving.open_fault sectors words)
fault sectors lent words l = rw (le-ltb lent 29 l) (go (ltb sectors 8192) (ltb 1099511627776 sectors) (ltb words (2 * numbers sectors)))
  where
    go : (a b c : Bool) →
        cond a (Some TooFewSectors) (cond b (Some TooManySectors) (cond c (Some TooFewWords) None)) ≡
        option_map raised (cond a (Some why.TooFewSectors) (cond b (Some why.TooManySectors) (cond c (Some why.TooFewWords) None)))
    go true b c = refl
    go false true c = refl
    go false false true = refl
    go false false false = refl

-- what is no sync is not built
pub not-built : (c : RustCall (Bor (List ℕ))) → (c ≡ call.Sync → ⊥) → built (call_of c) ≡ false
unfolding built
not-built (call.Open w b p) e = refl
not-built (call.Close h) e = refl
not-built (call.Read h f m) e = refl
not-built (call.Write h f b) e = refl
not-built (call.Resize h n) e = refl
not-built (call.Stat p) e = refl
not-built (call.StatOpen h) e = refl
not-built (call.MakeFolder p) e = refl
not-built (call.Remove p) e = refl
not-built (call.RemoveFolder p) e = refl
not-built (call.NextName h n) e = refl
not-built (call.Rename p q) e = refl
not-built (call.Join p q) e = refl
not-built (call.MakeLink t p) e = refl
not-built (call.ReadLink p) e = refl
not-built call.Sync e = absurd (e refl)

-- what was Ok before its fault was put in other words is Ok after
pub ok_before : {T E : Type 0} (F : Type 0) (r : Result T E) (x : T) → MatchResult r (λ y. ◌≡◌ {A = Result T F} (Ok x) (Ok y)) (λ e. ⊥) → r ≡ Ok x
ok_before F (Ok y) x h = let e : x ≡ y = cc in ap Ok (sym e)
ok_before F (Err e) x h = absurd h
