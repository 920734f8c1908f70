-- The store: shadow paging under one root sector, as the code runs it.
-- Assumes nothing.
use Rattle.std.specs.Prelude.{ℕ, zero, suc, ◌+◌, ◌-◌, ◌*◌, Bool, true, false, cond, not, ◌&&◌, ◌||◌, List, [], ◌++◌, length, Some, None, ◌==◌, nat_le, nat_lt}
use Rattle.std.specs.List.{between}
use Rattle.device.specs.Sectors.{all_bytes}
use Rattle.device.specs.Program.{Io, and_then}
use Rattle.device.specs.Machine.{Machine}
use Rattle.device.specs.Flow.{Flow, answer, ask, when, first, lt, eq, is, Turn, on, out, turns, loop}
use Rattle.device.specs.Plays.{Asked, Read, Write, io_of}
use Rattle.device.specs.Plays as device
use Rattle.paging.specs.Layout.{numbers, inner, last_node, child, slot, home}
use Rattle.paging.specs.Pages.{PageCall, Get, Put, PutVolatile, PutThrough, Volatile, Spare, Left, Label, Told, PageReply, replied, blank_page, blank_label, same_bytes}
use Rattle.paging.specs.Pages as pages
use Rattle.paging.specs.Sectors.{leaf_sector, inner_sector, root_sector, label_at, root_known}
use Rattle.paging.specs.Memory.{Mem, bare, moved, durable, tidied, selected, target, spare_from, twice, took}

abbrev pub OnDevice : Type 0 → Type 1
OnDevice A = Flow Asked device.Told A

-- whether the card's form is known; the label of the last sync; the memory
pub record Stored : Type 0 where
  pub known : Bool
  pub label : List ℕ
  pub mem : Mem

abbrev pub with_mem : Mem → Stored → Stored
with_mem m s = record { known = s.known; label = s.label; mem = m }

-- not up, or on a card whose form is not known: all pages are blank, and none can be put
abbrev pub shut : Stored
shut = record { known = false; label = blank_label; mem = bare 0 }

-- A PAGE'S 8 SECTORS, read and written
abbrev pub read_turn : ℕ → ℕ → List ℕ → OnDevice (List ℕ)
read_turn from i page = ask (Read (from + i)) (λ bs. answer (page ++ bs))

abbrev pub read_page : ℕ → OnDevice (List ℕ)
read_page from = turns 8 (read_turn from) []

abbrev pub write_turn : ℕ → List ℕ → ℕ → Unit {0} → OnDevice (Unit {0})
write_turn from page i _ = ask (Write (from + i) (between (i * 512) ((i + 1) * 512) page)) (λ _. answer tt)

abbrev pub write_page : ℕ → List ℕ → OnDevice (Unit {0})
write_page from page = turns 8 (write_turn from page) tt

-- GET. What is no page is blank.
abbrev pub place_of : Mem → ℕ → ℕ
place_of m n = cond (nat_lt n (numbers m.size)) (m.now n) 0

abbrev pub get : ℕ → Stored → OnDevice (List ℕ × Stored)
get n s =
    when (eq (place_of s.mem n) 0) (answer (blank_page, s))
    (first (read_page (home s.mem.size (place_of s.mem n - 1))) (λ page. answer (page, s)))

-- RECLAIMING. A page with two places that hold the same goes back to where it was synced; sector by sector, until they differ.
abbrev pub same_turn : ℕ → ℕ → ℕ → Unit {0} → OnDevice (Turn (Unit {0}) Bool)
same_turn a b i _ = ask (Read (a + i)) (λ x. ask (Read (b + i)) (λ y. when (is (same_bytes x y)) (answer (on tt)) (answer (out false))))

abbrev pub same_pages : ℕ → ℕ → OnDevice Bool
same_pages a b = loop 8 (same_turn a b) tt (λ _. answer true)

abbrev pub reclaim_turn : ℕ → Mem → OnDevice Mem
reclaim_turn n m =
    when (is (twice m n))
    (first (same_pages (home m.size (m.now n - 1)) (home m.size (m.old n - 1))) (λ same. when (is same) (answer (moved n (m.old n) (m.vol n) m)) (answer m)))
    (answer m)

abbrev pub reclaim : Mem → OnDevice Mem
reclaim m = turns (numbers m.size) reclaim_turn m

-- PUT. A blank page gives its place up. Nothing that the synced map has is written over. Where no physical page is free, pages with two places are compared first.
abbrev pub put_into : ℕ → List ℕ → Bool → Stored → Mem → ℕ → OnDevice (Bool × Stored)
put_into n b w s m v =
    when (eq v 0) (answer (false, with_mem m s))
    (first (write_page (home m.size (v - 1)) b) (λ _. answer (true, with_mem (moved n v w m) s)))

abbrev pub put_full : ℕ → List ℕ → Bool → Stored → OnDevice (Bool × Stored)
put_full n b w s =
    when (eq (target s.mem (s.mem.now n)) 0)
    (first (reclaim s.mem) (λ m. put_into n b w s m (target m (m.now n))))
    (put_into n b w s s.mem (target s.mem (s.mem.now n)))

abbrev pub put : ℕ → List ℕ → Bool → Stored → OnDevice (Bool × Stored)
put n b w s =
    when (is (s.known && (nat_lt n (numbers s.mem.size) && (length b == 4096 && all_bytes b))))
    (when (is (same_bytes b blank_page)) (answer (true, with_mem (moved n 0 false s.mem) s)) (put_full n b w s))
    (answer (false, s))

-- VOLATILE: what is blank stays as it is
abbrev pub volatile : ℕ → Stored → OnDevice (Bool × Stored)
volatile n s =
    when (is (s.known && nat_lt n (numbers s.mem.size)))
    (when (eq (s.mem.now n) 0) (answer (true, s)) (answer (true, with_mem (moved n (s.mem.now n) true s.mem) s)))
    (answer (false, s))

-- SYNC. Each node that is to be written goes into the slot that does not count; device sync; the root; device sync.
abbrev pub holds : Mem → ℕ → List ℕ
holds m k = cond (nat_lt k (inner m.size)) (inner_sector (λ b. selected m (child k b))) (leaf_sector (λ j. durable m (64 * (k - inner m.size) + j)))

abbrev pub write_node : (ℕ → OnDevice (Unit {0})) → Mem → ℕ → OnDevice (Unit {0})
write_node below m c =
    when (is (nat_le c (last_node m.size) && m.dirty c))
    (ask (Write (slot c (not (m.sel c))) (holds m c)) (λ _. below c))
    (answer tt)

unfoldable pub write_below : ℕ → Mem → ℕ → OnDevice (Unit {0})
write_below zero m k = answer tt
write_below (suc d) m k = when (lt k (inner m.size)) (turns 2048 (λ b _. write_node (write_below d m) m (child k b)) tt) (answer tt)

abbrev pub write_root : List ℕ → Stored → OnDevice (Unit {0} × Stored)
write_root label s =
    ask device.Sync (λ _. ask (Write 0 (root_sector label (λ b. selected s.mem (child 0 b)))) (λ _. ask device.Sync (λ _.
    answer (tt, record { known = s.known; label = label; mem = tidied s.mem }))))

-- Where nothing is to be written, and the label stays, nothing is done; nor with what is no label.
abbrev pub unchanged : List ℕ → Stored → Bool
unchanged label s = not s.known || (not (length label == 248 && all_bytes label) || (not (s.mem.dirty 0) && same_bytes label s.label))

abbrev pub sync : List ℕ → Stored → OnDevice (Unit {0} × Stored)
sync label s = when (is (unchanged label s)) (answer (tt, s)) (first (write_below 3 s.mem 0) (λ _. write_root label s))

-- EACH CALL
unfoldable pub store_flow : (c : PageCall) → Stored → OnDevice (Told c × Stored)
store_flow (Get n) s = get n s
store_flow (Put n b) s = put n b false s
store_flow (PutVolatile n b) s = put n b true s
store_flow (PutThrough n b) s = put n b false s
store_flow (Volatile n) s = volatile n s
store_flow (Spare from) s = answer (spare_from s.mem from, s)
store_flow Left s = answer (cond s.known s.mem.left 0, s)
store_flow Label s = answer (cond s.known (Some s.label) None, s)
store_flow (pages.Sync label) s = sync label s

-- COMING UP. The root, and then the nodes in order, each from the slot that the nodes before it say; of a form that is not known only the root. The number counts the sectors that are read.
abbrev pub node_turn : ℕ → Mem → OnDevice Mem
node_turn i m = ask (Read (slot (i + 1) (m.sel (i + 1)))) (λ bs. answer (took (i + 1) bs m))

abbrev pub nodes_flow : ℕ → Mem → OnDevice Mem
nodes_flow size m = turns (last_node size) node_turn m

abbrev pub open_flow : ℕ → OnDevice (Stored × ℕ)
open_flow size =
    ask (Read 0) (λ root.
    when (is (root_known root))
    (first (nodes_flow size (took 0 root (bare size))) (λ m. answer (record { known = true; label = label_at root; mem = m }, last_node size + 1)))
    (answer (shut, 1)))

-- THE MACHINE
abbrev pub store : Machine PageCall PageReply
store =
    record {
      Mem = Stored;
      opens = λ size. and_then (io_of (open_flow size)) (λ x. Io.answer x.0);
      does = λ c s. and_then (io_of (store_flow c s)) (λ x. Io.answer (record { reply = replied c x.0; mem = x.1 }));
    }
