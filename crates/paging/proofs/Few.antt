-- How much is read.
-- Assumes nothing.
use Rattle.std.proofs.Common.{◌≡◌, ℕ, zero, suc, ◌+◌, ◌-◌, ◌*◌, ◌≤◌, Bool, true, false, cond, ◌&&◌, eqb, ltb, leb, List, [], length, refl, ap, subst, arith}
use Rattle.std.proofs.lemmas.Bool.{eqb-false, eqb-true}
use Rattle.device.specs.Sectors.{Device, shown, written, synced, all_bytes}
use Rattle.device.specs.Program.{Io, answer, read, write, sync, run, reads_of, and_then}
use Rattle.device.specs.Flow.{Flow, Turn, on, out, turns, tries, loop, go, past}
use Rattle.device.specs.Plays.{io_of}
use Rattle.device.proofs.Programs.{run-then}
use Rattle.device.proofs.Sums.{reads_then_lem, reads-named}
use Rattle.paging.specs.Layout.{numbers, inner, last_node, child, home}
use Rattle.paging.specs.Pages.{PageCall, Get, Put, PutVolatile, PutThrough, Volatile, Spare, Left, Label, blank_page, same_bytes}
use Rattle.paging.specs.Pages as pages
use Rattle.paging.specs.Memory.{Mem, target, twice, took, bare}
use Rattle.paging.specs.Sectors.{label_at, root_known}
use Rattle.paging.specs.Store.{OnDevice, Stored, shut, store, read_turn, read_page, write_turn, write_page, place_of, same_turn, same_pages, reclaim_turn, reclaim, put_into, put, write_node, write_below, unchanged, store_flow, node_turn, open_flow}
use Rattle.paging.specs.Judge.{State, price}
use Rattle.paging.specs.Promise.{UpSoon}
use Rattle.paging.proofs.Inv.{Runs}
use Rattle.paging.proofs.Moves.{free-none, target_none}

-- at most n, from anywhere
abbrev Few : {A : Type 0} → ℕ → Io A → Type 0
Few n p = (d : Device) → reads_of p d ≤ n

few-answer : {A : Type 0} (n : ℕ) (a : A) → Few n (answer a)
unfolding reads_of
few-answer n a d = omega arith

few-read : {A : Type 0} (n s : ℕ) (k : List ℕ → Io A) → ((b : List ℕ) → Few n (k b)) → Few (suc n) (read s k)
unfolding reads_of
few-read n s k h d = let a = h (shown d s) d in omega arith

few-write : {A : Type 0} (n s : ℕ) (b : List ℕ) (p : Io A) → Few n p → Few n (write s b p)
unfolding reads_of
few-write n s b p h d = h (written s b d)

few-sync : {A : Type 0} (n : ℕ) (p : Io A) → Few n p → Few n (sync p)
unfolding reads_of
few-sync n p h d = h (synced d)

few-more : {A : Type 0} (n k : ℕ) (p : Io A) → n ≤ k → Few n p → Few k p
few-more n k p l h d = let a = h d in omega arith

few-cond : {A : Type 0} (n : ℕ) (b : Bool) (p q : Io A) → Few n p → Few n q → Few n (cond b p q)
few-cond n true p q h k = h
few-cond n false p q h k = k

few-then : {A B : Type 0} (n k : ℕ) (p : Io A) (f : A → Io B) → Few n p → ((a : A) → Few k (f a)) → Few (n + k) (and_then p f)
few-then n k p f h g d = let e = reads_then_lem _ _ p f d in let a = h d in let b = g (run p d).value (run p d).device in omega arith

few-turns : {A : Type 0} (r n : ℕ) (f : ℕ → A → OnDevice A) → ((i : ℕ) (x : A) → Few r (io_of (f i x))) → (a : A) → Few (n * r) (io_of (turns n f a))
unfolding turns io_of
few-turns r zero f h a = few-answer _ _
few-turns r (suc n) f h a = few-more (n * r + r) (suc n * r) _ (omega arith) (few-then (n * r) r (io_of (turns n f a)) (λ x. io_of (f n x)) (few-turns r n f h a) (h n))

few-tries : {A B : Type 0} (r n : ℕ) (f : ℕ → A → OnDevice (Turn A B)) → ((i : ℕ) (x : A) → Few r (io_of (f i x))) → (a : A) → Few (n * r) (io_of (tries n f a))
unfolding tries io_of
few-tries r zero f h a = few-answer _ _
few-tries {A} {B} r (suc n) f h a = few-more (n * r + r) (suc n * r) _ (omega arith) (few-then (n * r) r (io_of (tries n f a)) (λ x. io_of (go (f n) x)) (few-tries r n f h a) next)
  where
    next : (x : Turn A B) → Few r (io_of (go (f n) x))
    next (on x) = h n x
    next (out y) = few-answer r (out y)

few-read_page : (from : ℕ) → Few 8 (io_of (read_page from))
unfolding io_of
few-read_page from = few-turns 1 8 (read_turn from) (λ i x. few-read 0 _ _ (λ b. few-answer 0 _)) []

few-write_page : (from : ℕ) (page : List ℕ) → Few 0 (io_of (write_page from page))
unfolding io_of
few-write_page from page = few-turns 0 8 (write_turn from page) (λ i x. few-write 0 _ _ _ (few-answer 0 _)) tt

few-same_pages : (a b : ℕ) → Few 16 (io_of (same_pages a b))
unfolding io_of loop
few-same_pages a b =
    few-then 16 0 (io_of (tries 8 (same_turn a b) tt)) (λ x. io_of (past (λ _. Flow.answer true) x))
    (few-tries 2 8 (same_turn a b) (λ i x. few-read 1 _ _ (λ v. few-read 0 _ _ (λ w. few-cond 0 (same_bytes v w) _ _ (few-answer 0 _) (few-answer 0 _)))) tt) next
  where
    next : (x : Turn (Unit {0}) Bool) → Few 0 (io_of (past (λ _. Flow.answer true) x))
    next (on x) = few-answer 0 true
    next (out y) = few-answer 0 y

few-reclaim : (m : Mem) → Few (numbers m.size * 16) (io_of (reclaim m))
unfolding io_of
few-reclaim m =
    few-turns 16 (numbers m.size) reclaim_turn
    (λ n m. few-cond 16 (twice m n) _ _ (few-then 16 0 (io_of (same_pages (home m.size (m.now n - 1)) (home m.size (m.old n - 1)))) _ (few-same_pages _ _) (λ r. few-cond 0 r _ _ (few-answer 0 _) (few-answer 0 _))) (few-answer 16 _)) m

few-put_into : (n : ℕ) (b : List ℕ) (w : Bool) (t : Stored) (m : Mem) (v : ℕ) → Few 0 (io_of (put_into n b w t m v))
unfolding io_of
few-put_into n b w t m v = few-cond 0 (eqb v 0) _ _ (few-answer 0 _) (few-then 0 0 (io_of (write_page (home m.size (v - 1)) b)) _ (few-write_page _ b) (λ _. few-answer 0 _))

module _ (t : Stored) (d : Device) (s : State) (r : Runs t.mem.size t d s) where
  abbrev most : ℕ
  most = cond (eqb s.left 0) (2 * t.mem.size + 16) 0

  -- while something is left, a place is found
  found : (v : ℕ) → target t.mem v ≡ 0 → s.left ≡ 0
  found v e = let a = free-none t.mem r.up.ready.counted (target_none t.mem v e).0 in let b = r.left in omega arith

  few-put : (n : ℕ) (b : List ℕ) (w : Bool) → Few most (io_of (put n b w t))
  unfolding io_of
  few-put n b w =
      few-cond most (t.known && (ltb n (numbers t.mem.size) && (eqb (length b) 4096 && all_bytes b))) _ _
      (few-cond most (same_bytes b blank_page) _ _ (few-more 0 most _ (omega arith) (few-answer 0 _)) (full (eqb (target t.mem (t.mem.now n)) 0) (eqb s.left 0) refl refl))
      (few-more 0 most _ (omega arith) (few-answer 0 _))
    where
      full : (a c : Bool) → eqb (target t.mem (t.mem.now n)) 0 ≡ a → eqb s.left 0 ≡ c →
          Few (cond c (2 * t.mem.size + 16) 0) (cond a (and_then (io_of (reclaim t.mem)) (λ m. io_of (put_into n b w t m (target m (m.now n))))) (io_of (put_into n b w t t.mem (target t.mem (t.mem.now n)))))
      full true true e f = few-more (numbers t.mem.size * 16 + 0) (2 * t.mem.size + 16) _ (omega arith) (few-then (numbers t.mem.size * 16) 0 (io_of (reclaim t.mem)) _ (few-reclaim t.mem) (λ m. few-put_into n b w t m _))
      full true false e f = absurd (eqb-false s.left 0 f (found (t.mem.now n) (eqb-true _ 0 e)))
      full false c e f = few-more 0 _ _ (omega arith) (few-put_into n b w t t.mem _)

few-below : (d : ℕ) (m : Mem) (k : ℕ) → Few 0 (io_of (write_below d m k))
unfolding write_below io_of
few-below zero m k = few-answer 0 tt
few-below (suc d) m k =
    few-cond 0 (ltb k (inner m.size)) _ _
    (few-more (2048 * 0) 0 _ (omega arith) (few-turns 0 2048 (λ b _. write_node (write_below d m) m (child k b)) (λ b x. few-cond 0 (leb (child k b) (last_node m.size) && m.dirty (child k b)) _ _ (few-write 0 _ _ _ (few-below d m (child k b))) (few-answer 0 tt)) tt))
    (few-answer 0 tt)

few-at : (t : Stored) (d : Device) (s : State) → Runs t.mem.size t d s → (c : PageCall) → reads_of (io_of (store_flow c t)) d ≤ price t.mem.size s c
unfolding store_flow price io_of
few-at t d s r (Get n) = few-cond 8 (eqb (place_of t.mem n) 0) _ _ (few-answer 8 _) (few-then 8 0 (io_of (read_page (home t.mem.size (place_of t.mem n - 1)))) _ (few-read_page _) (λ b. few-answer 0 _)) d
few-at t d s r (Put n b) = few-put t d s r n b false d
few-at t d s r (PutVolatile n b) = few-put t d s r n b true d
few-at t d s r (PutThrough n b) = few-put t d s r n b false d
few-at t d s r (Volatile n) = few-cond 0 (t.known && ltb n (numbers t.mem.size)) _ _ (few-cond 0 (eqb (t.mem.now n) 0) _ _ (few-answer 0 _) (few-answer 0 _)) (few-answer 0 _) d
few-at t d s r (Spare from) = few-answer 0 _ d
few-at t d s r Left = few-answer 0 _ d
few-at t d s r Label = few-answer 0 _ d
few-at t d s r (pages.Sync label) =
    few-cond 0 (unchanged label t) _ _ (few-answer 0 _)
    (few-then 0 0 (io_of (write_below 3 t.mem 0)) _ (few-below 3 t.mem 0) (λ _. few-sync 0 _ (few-write 0 _ _ _ (few-sync 0 _ (few-answer 0 _))))) d

pub few-does : (z : ℕ) (t : Stored) (d : Device) (s : State) → Runs z t d s → (c : PageCall) → reads_of (store.does c t) d ≤ price z s c
few-does z t d s r c =
    let a = subst (λ z. Runs z t d s → reads_of (io_of (store_flow c t)) d ≤ price z s c) r.up.sized (λ r. few-at t d s r c) r in
    let b : reads_of (store.does c t) d ≡ reads_of (io_of (store_flow c t)) d = reads-named (io_of (store_flow c t)) (λ x. record { reply = pages.replied c x.0; mem = x.1 }) d in
    omega arith

-- COMING UP reads the root and each other node once
nodes-read : (n : ℕ) (m : Mem) (d : Device) → reads_of (io_of (turns n node_turn m)) d ≡ n
unfolding turns io_of reads_of
nodes-read zero m d = refl
nodes-read (suc n) m d = let a = nodes-read n m d in let b = reads_then_lem _ _ (io_of (turns n node_turn m)) (λ x. io_of (node_turn n x)) d in omega arith

told-reads : (size : ℕ) (d : Device) → (run (io_of (open_flow size)) d).value.1 ≡ reads_of (io_of (open_flow size)) d
unfolding io_of run reads_of
told-reads size d = by (root_known (shown d 0))
  where
    nodes : Io Mem
    nodes = io_of (turns (last_node size) node_turn (took 0 (shown d 0) (bare size)))

    named : Mem → Stored × ℕ
    named m = (record { known = true; label = label_at (shown d 0); mem = m }, last_node size + 1)

    by : (b : Bool) → (run (cond b (and_then nodes (λ m. answer (named m))) (answer (shut, 1))) d).value.1 ≡ 1 + reads_of (cond b (and_then nodes (λ m. answer (named m))) (answer (shut, 1))) d
    by true =
        let a = nodes-read (last_node size) (took 0 (shown d 0) (bare size)) d in
        let b = reads-named nodes named d in
        let c = ap (λ x. x.value.1) (run-then nodes (λ m. answer (named m)) d) in
        omega arith
    by false = refl

few-nodes : (size : ℕ) (d : Device) → reads_of (io_of (open_flow size)) d ≤ suc (last_node size)
unfolding io_of
few-nodes size d =
    few-read (last_node size) 0 _ (λ root.
    few-cond (last_node size) (root_known root) _ _
    (few-more (last_node size * 1 + 0) (last_node size) _ (omega arith) (few-then (last_node size * 1) 0 (io_of (turns (last_node size) node_turn (took 0 root (bare size)))) _ (few-turns 1 (last_node size) node_turn (λ i m. few-read 0 _ _ (λ b. few-answer 0 _)) _) (λ m. few-answer 0 _)))
    (few-answer (last_node size) _)) d

pub few-opens : (size : ℕ) (d : Device) → reads_of (store.opens size) d ≤ 1 + last_node size
few-opens size d = let a = few-nodes size d in let b : reads_of (store.opens size) d ≡ reads_of (io_of (open_flow size)) d = reads-named (io_of (open_flow size)) (λ x. x.0) d in omega arith

pub up-soon : UpSoon
up-soon = (λ size d. let a = few-opens size d in omega arith, told-reads)
