-- The file system as a layer on pages, and the machine that it is on the cache and the store.
-- Assumes nothing.
use Rattle.std.specs.Prelude.{ℕ, Bool, true, false, List}
use Rattle.device.specs.Machine.{Machine}
use Rattle.device.specs.Layer.{Layer, gives, over}
use Rattle.device.specs.Flow.{Flow, answer, ask, when, given, is}
use Rattle.device.specs.Plays.{plan_of, plan_then}
use Rattle.paging.specs.Pages.{PageCall, PageReply, Told, Label, blank_label, page_replies}
use Rattle.paging.specs.Pages as pages
use Rattle.paging.specs.Store.{store}
use Rattle.caching.specs.Cache.{cache_layer}
use Rattle.model.specs.Calls.{Call, Open, Close, Read, Write, Resize, Stat, StatOpen, MakeFolder, Remove, RemoveFolder, NextName, Rename, Join, MakeLink, ReadLink, Sync, Reply, No, Done}

-- the calls that are built so far
unfoldable pub built : Call → Bool
built (Open way w p) = false
built (Close h) = false
built (Read h from most) = false
built (Write h from bs) = false
built (Resize h n) = false
built (Stat p) = false
built (StatOpen h) = false
built (MakeFolder p) = false
built (Remove p) = false
built (RemoveFolder p) = false
built (NextName h n) = false
built (Rename p q) = false
built (Join p q) = false
built (MakeLink to p) = false
built (ReadLink p) = false
built Sync = true

-- what is kept between calls: whether the card's form is known, and the label of the store, which holds the header
pub record FilesMem : Type 0 where
  pub known : Bool
  pub label : List ℕ

abbrev pub OnPages : Type 0 → Type 1
OnPages A = Flow PageCall Told A

abbrev pub up_flow : OnPages FilesMem
up_flow = ask Label (λ told. given told (λ label. answer (record { known = true; label = label })) (answer (record { known = false; label = blank_label })))

-- On a card whose form is not known every call is refused by 19; what is not built is refused by 12.
abbrev pub call_flow : Call → FilesMem → OnPages (Reply × FilesMem)
call_flow c m =
    when (is m.known)
    (when (is (built c)) (ask (pages.Sync m.label) (λ _. answer (Done, m))) (answer (No 12, m)))
    (answer (No 19, m))

abbrev pub files_layer : Layer PageCall PageReply Call Reply
files_layer =
    record {
      Mem = FilesMem;
      comes_up = λ size. plan_of page_replies up_flow;
      answers = λ c m. plan_then (plan_of page_replies (call_flow c m)) (λ x. gives (record { reply = x.0; mem = x.1 }));
    }

-- on the store, with so many frames of a cache between
abbrev pub pages_below : ℕ → Machine PageCall PageReply
pages_below frames = over store (cache_layer frames)

abbrev pub machine : ℕ → Machine Call Reply
machine frames = over (pages_below frames) files_layer
