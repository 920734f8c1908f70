-- The cache of pages, as the code runs it, and the layer that it is.
-- Assumes nothing.
use Rattle.std.specs.Prelude.{ℕ, ◌+◌, ◌-◌, ◌%◌, ◌^◌, Bool, true, false, cond, not, ◌&&◌, Option, None, List, length, ◌==◌, nat_lt}
use Rattle.device.specs.Sectors.{all_bytes}
use Rattle.device.specs.Layer.{Layer, gives}
use Rattle.device.specs.Flow.{Flow, answer, ask, when, given, first, lt, le, eq, is, Turn, on, out, turns, loop}
use Rattle.device.specs.Plays.{plan_of, plan_then}
use Rattle.paging.specs.Layout.{numbers}
use Rattle.paging.specs.Pages.{PageCall, Get, Put, PutVolatile, PutThrough, Volatile, Spare, Left, Label, Sync, Told, PageReply, replied, page_replies, blank_page, same_bytes}
use Rattle.caching.specs.declared.How.{How}
use Rattle.caching.specs.declared.How.TheVariants as how
use Rattle.caching.specs.declared.Tag.{Tag}
use Rattle.caching.specs.declared.Tag.TheVariants.{Clean, Marked}
use Rattle.caching.specs.Frames.{Cache, fresh, frame_at, tag_at, with_tag, filled, count, waiting, unwritten, how_marked, tag_of, find, marks, is_marked, dropped, turned}

abbrev pub OnPages : Type 0 → Type 1
OnPages A = Flow PageCall Told A

abbrev pub put_below : ℕ → List ℕ → How → OnPages Bool
put_below n b how.Lasting = ask (Put n b) (λ r. answer r)
put_below n b how.Volatile = ask (PutVolatile n b) (λ r. answer r)
put_below n b how.Through = ask (PutThrough n b) (λ r. answer r)

-- A marked frame is written below. It finds room, which is not given away meanwhile.
abbrev pub write_back : ℕ → Cache → OnPages Cache
write_back i m =
    given (waiting (tag_at m i))
    (λ x. first (put_below x.0 (frame_at m i) (how_marked x.1)) (λ _. answer (with_tag i (Clean x.0) m)))
    (answer m)

abbrev pub flush : Cache → OnPages Cache
flush m = turns (count m) write_back m

-- the frame at the hand is made free for another page
abbrev pub evict : Cache → OnPages Cache
evict m = first (write_back m.hand m) (λ t. answer (turned t))

-- GET
abbrev pub get : ℕ → Cache → OnPages (List ℕ × Cache)
get n m =
    when (lt n m.numbers)
    (given (find m n) (λ i. answer (frame_at m i, m))
    (when (eq (count m) 0)
    (ask (Get n) (λ b. answer (b, m)))
    (first (evict m) (λ t. ask (Get n) (λ b. answer (b, filled m.hand (Clean n) b t))))))
    (answer (blank_page, m))

-- PUT. While more is left below than there are marked frames, it goes into a frame, unless it is to go through. What is blank, or finds nothing left, goes below, after all that is marked where nothing is left: so the part below decides on the very pages that there are.
abbrev pub can_put : ℕ → List ℕ → Cache → Bool
can_put n b m = nat_lt n m.numbers && (length b == 4096 && all_bytes b)

abbrev pub stays : List ℕ → ℕ → Cache → Bool
stays b l m = not (same_bytes b blank_page) && (nat_lt 0 (count m) && nat_lt (marks m) l)

-- the tag with which it stays in a frame, if it does
abbrev pub staying : ℕ → List ℕ → How → ℕ → Cache → Option Tag
staying n b h l m = cond (stays b l m) (tag_of h n) None

-- the frame of a page, or one for it
abbrev pub frame_for : ℕ → Cache → OnPages (ℕ × Cache)
frame_for n m = given (find m n) (λ i. answer (i, m)) (first (evict m) (λ t. answer (m.hand, t)))

abbrev pub make_room : ℕ → Cache → OnPages Cache
make_room l m = when (le l (marks m)) (flush m) (answer m)

abbrev pub passed : ℕ → Bool → Cache → OnPages (Bool × Cache)
passed n r m = when (is r) (answer (true, dropped n m)) (answer (false, m))

-- with so many left below
abbrev pub put_with : ℕ → List ℕ → How → ℕ → Cache → OnPages (Bool × Cache)
put_with n b h l m =
    given (staying n b h l m)
    (λ t. first (frame_for n m) (λ x. answer (true, filled x.0 t b x.1)))
    (first (make_room l m) (λ t. first (put_below n b h) (λ r. passed n r t)))

abbrev pub put : ℕ → List ℕ → How → Cache → OnPages (Bool × Cache)
put n b h m = when (is (can_put n b m)) (ask Left (λ l. put_with n b h l m)) (answer (false, m))

-- VOLATILE
abbrev pub volatile : ℕ → Cache → OnPages (Bool × Cache)
volatile n m =
    given (find m n)
    (λ i. when (is (unwritten (tag_at m i))) (answer (true, with_tag i (Marked n true) m)) (ask (Volatile n) (λ r. answer (r, m))))
    (ask (Volatile n) (λ r. answer (r, m)))

-- SPARE. What is blank below may be in a marked frame: then on from there. Where that does not end, all is written below first.
abbrev pub spare_turn : Cache → ℕ → ℕ → OnPages (Turn ℕ (ℕ × Cache))
spare_turn m i from = ask (Spare from) (λ n. when (is (is_marked m n)) (answer (on ((n + 1) % 2 ^ 64))) (answer (out (n, m))))

abbrev pub spare_after : ℕ → Cache → OnPages (ℕ × Cache)
spare_after from m = first (flush m) (λ t. ask (Spare from) (λ n. answer (n, t)))

abbrev pub spare : ℕ → Cache → OnPages (ℕ × Cache)
spare from m = loop (count m + 1) (spare_turn m) from (λ _. spare_after from m)

-- SYNC: the frames first
abbrev pub sync : List ℕ → Cache → OnPages (Unit {0} × Cache)
sync label m = first (flush m) (λ t. ask (Sync label) (λ _. answer (tt, t)))

-- EACH CALL
unfoldable pub cache_flow : (c : PageCall) → Cache → OnPages (Told c × Cache)
cache_flow (Get n) m = get n m
cache_flow (Put n b) m = put n b how.Lasting m
cache_flow (PutVolatile n b) m = put n b how.Volatile m
cache_flow (PutThrough n b) m = put n b how.Through m
cache_flow (Volatile n) m = volatile n m
cache_flow (Spare from) m = spare from m
cache_flow Left m = ask Left (λ l. answer (l - marks m, m))
cache_flow Label m = ask Label (λ l. answer (l, m))
cache_flow (Sync label) m = sync label m

-- THE LAYER, with so many frames
abbrev pub cache_layer : ℕ → Layer PageCall PageReply PageCall PageReply
cache_layer frames =
    record {
      Mem = Cache;
      comes_up = λ size. gives (fresh (numbers size) frames);
      answers = λ c m. plan_then (plan_of page_replies (cache_flow c m)) (λ x. gives (record { reply = replied c x.0; mem = x.1 }));
    }
