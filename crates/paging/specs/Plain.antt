-- Pages with four calls alone, get, put, commit and sync: their judge, and the layer that forwards them to the store.
-- Assumes nothing.
use Rattle.std.specs.Prelude.{◌≡◌, ℕ, ◌+◌, ◌*◌, ◌<◌, ◌≤◌, cond, not, T, ◌⊎◌, List, [], ◌∷◌, length, ◌≢◌, nat_lt}
use mathlib.Core.List.{Memᴰ}
use Rattle.device.specs.Sectors.{all_bytes}
use Rattle.device.specs.Machine.{Machine, Judge}
use Rattle.device.specs.Layer.{Plan, gives, asks, Layer, over}
use Rattle.paging.specs.Layout.{numbers}
use Rattle.paging.specs.Pages.{PageCall, PageReply, page_in, said_in, blank_page, blank_label}
use Rattle.paging.specs.Judge.{set_at, used}
use Rattle.paging.specs.Store.{store}

pub data PlainCall : Type 0 where
  Get : ℕ → PlainCall
  Put : ℕ → List ℕ → PlainCall
  Commit Sync' : PlainCall

-- the pages as they are, and what a cut may leave, the latest first: as after each commit since the last sync, and as at that
pub record PlainState : Type 0 where
  pub now : ℕ → List ℕ
  pub could : List (ℕ → List ℕ)

pub data PlainReply : Type 0 where
  Page : List ℕ → PlainReply
  Fine NoRoom : PlainReply

unfoldable pub last_of : (ℕ → List ℕ) → List (ℕ → List ℕ) → ℕ → List ℕ
last_of f [] = f
last_of f (g ∷ gs) = last_of g gs

-- Page numbers are below an eighth of the card's sectors. No room only where nine eighths of what would be to be kept, and 1 MiB, is more than the card.
pub data PlainAnswers (size : ℕ) : PlainCall → PlainState → PlainReply → PlainState → Type 0 where
  gets : (n : ℕ) (p : PlainState) → 8 * n < size → PlainAnswers size (Get n) p (Page (p.now n)) p
  puts : (n : ℕ) (b : List ℕ) (p : PlainState) → 8 * n < size → length b ≡ 4096 → T (all_bytes b) → PlainAnswers size (Put n b) p Fine (record { now = set_at n b p.now; could = p.could })
  no_room : (n : ℕ) (b : List ℕ) (p : PlainState) → 4096 * size < 8388608 + 36864 * used size (set_at n b p.now) (last_of p.now p.could) → PlainAnswers size (Put n b) p NoRoom p
  commits : (p : PlainState) → PlainAnswers size Commit p Fine (record { now = p.now; could = p.now ∷ p.could })
  syncs : (p : PlainState) → PlainAnswers size Sync' p Fine (record { now = p.now; could = p.now ∷ [] })
  -- what is no page asks for nothing
  no_get : (n : ℕ) (p : PlainState) → size ≤ 8 * n → PlainAnswers size (Get n) p NoRoom p
  no_put : (n : ℕ) (b : List ℕ) (p : PlainState) → (size ≤ 8 * n) ⊎ ((length b ≢ 4096) ⊎ T (not (all_bytes b))) → PlainAnswers size (Put n b) p NoRoom p

pub data PlainDown : PlainState → PlainState → Type 0 where
  leaves : (p : PlainState) (f : ℕ → List ℕ) → Memᴰ f p.could → PlainDown p (record { now = f; could = f ∷ [] })

abbrev pub plain_pages : ℕ → Judge PlainCall PlainReply
plain_pages size = record { State = PlainState; start = record { now = λ n. blank_page; could = (λ n. blank_page) ∷ [] }; Answers = PlainAnswers size; Down = PlainDown }

-- The layer: it knows the size of the card. A commit asks for nothing below: a cut then leaves the last sync.
abbrev pub Says : Type 0
Says = record { reply : PlainReply; mem : ℕ }

abbrev pub says : ℕ → PlainReply → Plan PageCall PageReply Says
says size r = gives (record { reply = r; mem = size })

unfoldable pub forwards : PlainCall → ℕ → Plan PageCall PageReply Says
forwards (Get n) size = cond (nat_lt n (numbers size)) (asks (PageCall.Get n) (λ r. says size (Page (page_in r)))) (says size NoRoom)
forwards (Put n b) size = asks (PageCall.Put n b) (λ r. says size (cond (said_in r) Fine NoRoom))
forwards Commit size = says size Fine
forwards Sync' size = asks (PageCall.Sync blank_label) (λ r. says size Fine)

abbrev pub plain : Layer PageCall PageReply PlainCall PlainReply
plain = record { Mem = ℕ; comes_up = λ size. gives size; answers = forwards }

abbrev pub plain_store : Machine PlainCall PlainReply
plain_store = over store plain
