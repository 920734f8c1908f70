-- What is promised of the store.
-- Assumes nothing.
use Rattle.std.specs.Prelude.{◌≡◌, ℕ, ◌+◌, ◌*◌, ◌/◌, ◌<◌, ◌≤◌, Bool, true, false, List, None}
use Rattle.device.specs.Sectors.{Device, shown}
use Rattle.device.specs.Program.{run, reads_of}
use Rattle.device.specs.Machine.{Event, Trace, on, Allowed, Keeps, Within}
use Rattle.device.specs.Layer.{Plan, through, Comes}
use Rattle.device.specs.Plays.{io_of}
use Rattle.device.specs.Priced.{spent}
use Rattle.paging.specs.Layout.{numbers, rooms}
use Rattle.paging.specs.Pages.{PageCall, Get, Put, PutVolatile, PutThrough, Volatile, Spare, Left, Label, Sync, PageReply, Page, Said, Number, Labelled, Synced, blank_page}
use Rattle.paging.specs.Sectors.{root_known}
use Rattle.paging.specs.Store.{Stored, shut, open_flow, store}
use Rattle.paging.specs.Judge.{State, set_at, used, Putting, CanPut, Crowded, Answers, kept, price}
use Rattle.paging.specs.Plain.{plain_pages, plain_store}

-- THE STORE KEEPS TO ITS JUDGE: all that is ever seen of it, over any calls and power cuts from a blank card on, is as the judge allows; and nothing is touched but the device.
abbrev pub StoreKept : Type 0
StoreKept = Keeps kept store × Within store

-- and so it is with the four plain calls
abbrev pub PagesKept : Type 0
PagesKept = Keeps plain_pages plain_store × Within plain_store

-- IT IS UP SOON, on any device: after at most 64 sectors and a 64th of the card; and it tells how many it has read.
abbrev pub UpSoon : Type 0
UpSoon = ((size : ℕ) (d : Device) → 64 * reads_of (store.opens size) d ≤ 4096 + size) × ((size : ℕ) (d : Device) → (run (io_of (open_flow size)) d).value.1 ≡ reads_of (io_of (open_flow size)) d)

-- PRICES. Whatever came before, there is a state that the judge allows, and no call reads more than its price in that state.
abbrev pub CallsPriced : Type 0
CallsPriced =
    (size : ℕ) → 8192 ≤ size → size ≤ 1099511627776 → (es : List (Event PageCall PageReply)) (m : Stored) (d : Device) → Trace store size es (on m d) →
    (s : State) × Allowed (kept size) es s × ((c : PageCall) → reads_of (store.does c m) d ≤ price size s c)

-- And a plan of many calls goes some way that the judge allows, and reads no more than its calls cost on that way.
abbrev pub PlansPriced : Type 0 → Type 0
PlansPriced A =
    (size : ℕ) → 8192 ≤ size → size ≤ 1099511627776 → (es : List (Event PageCall PageReply)) (m : Stored) (d : Device) → Trace store size es (on m d) →
    (s : State) × Allowed (kept size) es s × ((q : Plan PageCall PageReply A) → (t : State) × (w : Comes (kept size) q s (run (through store q m) d).value.value t) × (reads_of (through store q m) d ≤ spent (price size) w))

-- WHAT LEFT MEANS. While something is left, a put of any kind is done, takes one of it at most, and reads nothing; and there is a spare page.
abbrev pub PutFinds : Type 0
PutFinds =
    (size n : ℕ) (b : List ℕ) (w : Bool) (c : PageCall) (s t : State) (r : PageReply) → Putting c n b w → CanPut size n b → 0 < s.left → Answers size c s r t →
    (r ≡ Said true) × (s.left ≤ t.left + 1) × (price size s c ≡ 0)

abbrev pub SpareFinds : Type 0
SpareFinds = (size from : ℕ) (s t : State) (r : PageReply) → 0 < s.left → Answers size (Spare from) s r t → (n : ℕ) × (r ≡ Number n) × (1 ≤ n) × (n < numbers size) × (s.now n ≡ blank_page)

abbrev pub LeftMeans : Type 0
LeftMeans = PutFinds × SpareFinds

-- ROOM. There are physical pages for all numbers but a 64th and 16; so a put finds no room only where the contents to be kept are more than that.
abbrev pub Roomy : Type 0
Roomy =
    ((size : ℕ) → 8192 ≤ size → numbers size < rooms size + numbers size / 64 + 16) ×
    ((size n : ℕ) (b : List ℕ) (s : State) → 8192 ≤ size → Crowded size n b s → numbers size < used (numbers size) (set_at n b s.now) s.synced + numbers size / 64 + 16)

-- A CARD OF ANOTHER FORM. What the store answers then: a blank page, no, nothing left, no label; any number for a spare page.
abbrev pub Refuses : PageCall → PageReply → Type 0
Refuses (Get n) r = r ≡ Page blank_page
Refuses (Put n b) r = r ≡ Said false
Refuses (PutVolatile n b) r = r ≡ Said false
Refuses (PutThrough n b) r = r ≡ Said false
Refuses (Volatile n) r = r ≡ Said false
Refuses (Spare from) r = (n : ℕ) × (r ≡ Number n)
Refuses Left r = r ≡ Number 0
Refuses Label r = r ≡ Labelled None
Refuses (Sync label) r = r ≡ Synced

-- On a device of any size whose root is of no form that is known: coming up reads the root alone and leaves the device as it is, and so does each call, reading nothing.
abbrev pub LeavesForeign : Type 0
LeavesForeign =
    ((size : ℕ) (d : Device) → root_known (shown d 0) ≡ false → ((run (store.opens size) d).value ≡ shut) × ((run (store.opens size) d).device ≡ d) × (reads_of (store.opens size) d ≡ 1)) ×
    ((d : Device) (c : PageCall) →
    Refuses c (run (store.does c shut) d).value.reply × ((run (store.does c shut) d).value.mem ≡ shut) × ((run (store.does c shut) d).device ≡ d) × (reads_of (store.does c shut) d ≡ 0))

-- and so it is with any plan of calls
abbrev pub ForeignStays : Type 0 → Type 0
ForeignStays A = (d : Device) (q : Plan PageCall PageReply A) → ((run (through store q shut) d).device ≡ d) × ((run (through store q shut) d).value.below ≡ shut)

-- From a blank card on the form is always known.
abbrev pub AlwaysKnown : Type 0
AlwaysKnown = (size : ℕ) → 8192 ≤ size → size ≤ 1099511627776 → (es : List (Event PageCall PageReply)) (m : Stored) (d : Device) → Trace store size es (on m d) → m.known ≡ true
