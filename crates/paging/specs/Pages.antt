-- Numbered pages: what may be asked of them, and what is told.
-- Assumes nothing.
use Rattle.std.specs.Prelude.{◌≡◌, ℕ, Bool, true, false, ◌&&◌, List, [], ◌∷◌, replicate, None, Option, ◌==◌, refl}
use Rattle.device.specs.Plays.{Replies}

-- a page that is all zero is blank, and takes no room
abbrev pub blank_page : List ℕ
blank_page = replicate 4096 0

abbrev pub blank_label : List ℕ
blank_label = replicate 248 0

unfoldable pub same_bytes : List ℕ → List ℕ → Bool
same_bytes [] [] = true
same_bytes [] (y ∷ ys) = false
same_bytes (x ∷ xs) [] = false
same_bytes (x ∷ xs) (y ∷ ys) = x == y && same_bytes xs ys

pub data PageCall : Type 0 where
  Get : ℕ → PageCall
  Put : ℕ → List ℕ → PageCall
  -- the same, but a sync leaves the page blank on the card
  PutVolatile : ℕ → List ℕ → PageCall
  -- a put that does not stay: it is not kept in memory, where pages are; else the same as a put
  PutThrough : ℕ → List ℕ → PageCall
  -- the page, as it is, is volatile from now on
  Volatile : ℕ → PageCall
  -- a blank page, looked for from a number on
  Spare : ℕ → PageCall
  -- how many puts surely find room
  Left : PageCall
  -- the label of the last sync; none where the card is of a form that is not known
  Label : PageCall
  Sync : (label : List ℕ) → PageCall

abbrev pub Told : PageCall → Type 0
Told (Get n) = List ℕ
Told (Put n b) = Bool
Told (PutVolatile n b) = Bool
Told (PutThrough n b) = Bool
Told (Volatile n) = Bool
Told (Spare from) = ℕ
Told Left = ℕ
Told Label = Option (List ℕ)
Told (Sync l) = Unit {0}

-- all that is told, in one type
pub data PageReply : Type 0 where
  Page : List ℕ → PageReply
  Said : Bool → PageReply
  Number : ℕ → PageReply
  Labelled : Option (List ℕ) → PageReply
  Synced : PageReply

unfoldable pub replied : (c : PageCall) → Told c → PageReply
replied (Get n) b = Page b
replied (Put n b) r = Said r
replied (PutVolatile n b) r = Said r
replied (PutThrough n b) r = Said r
replied (Volatile n) r = Said r
replied (Spare from) n = Number n
replied Left n = Number n
replied Label l = Labelled l
replied (Sync l) r = Synced

abbrev pub page_in : PageReply → List ℕ
page_in (Page b) = b
page_in (Said r) = []
page_in (Number n) = []
page_in (Labelled l) = []
page_in Synced = []

abbrev pub said_in : PageReply → Bool
said_in (Page b) = false
said_in (Said r) = r
said_in (Number n) = false
said_in (Labelled l) = false
said_in Synced = false

abbrev pub number_in : PageReply → ℕ
number_in (Page b) = 0
number_in (Said r) = 0
number_in (Number n) = n
number_in (Labelled l) = 0
number_in Synced = 0

abbrev pub label_in : PageReply → Option (List ℕ)
label_in (Page b) = None
label_in (Said r) = None
label_in (Number n) = None
label_in (Labelled l) = l
label_in Synced = None

unfoldable pub told_in : (c : PageCall) → PageReply → Told c
told_in (Get n) r = page_in r
told_in (Put n b) r = said_in r
told_in (PutVolatile n b) r = said_in r
told_in (PutThrough n b) r = said_in r
told_in (Volatile n) r = said_in r
told_in (Spare from) r = number_in r
told_in Left r = number_in r
told_in Label r = label_in r
told_in (Sync l) r = tt

pub told_back : (c : PageCall) (r : Told c) → told_in c (replied c r) ≡ r
unfolding replied told_in
told_back (Get n) r = refl
told_back (Put n b) r = refl
told_back (PutVolatile n b) r = refl
told_back (PutThrough n b) r = refl
told_back (Volatile n) r = refl
told_back (Spare from) r = refl
told_back Left r = refl
told_back Label r = refl
told_back (Sync l) r = refl

abbrev pub page_replies : Replies PageCall Told PageReply
page_replies = record { put = replied; take = told_in; back = told_back }
