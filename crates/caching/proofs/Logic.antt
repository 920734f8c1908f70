-- A logic of plans over the judge of pages: whatever is answered, Here holds wherever the power may fail, There at the end, and no more than so many sectors are read.
-- Assumes nothing.
use Rattle.std.proofs.Common.{◌≡◌, ℕ, zero, suc, ◌+◌, ◌<◌, ◌≤◌, Bool, true, false, cond, List, Some, None, Option, refl, arith}
use Rattle.device.specs.Layer.{Plan, gives, asks, Comes, CutShort}
use Rattle.device.specs.Flow.{Turn, on, out, go, past, turns, tries, loop}
use Rattle.device.specs.Plays.{plan_of, plan_then, if_some}
use Rattle.device.specs.Priced.{spent}
use Rattle.paging.specs.Pages.{PageCall, PageReply, page_replies, told_in, said_in}
use Rattle.paging.specs.Judge.{State, Putting, PutAnswers, Answers, Down, kept, price, put_price}
use Rattle.paging.proofs.Store.{put-answers}
use Rattle.caching.specs.declared.How.{How}
use Rattle.caching.specs.declared.How.TheVariants.{Lasting, Volatile, Through}
use Rattle.caching.specs.Cache.{OnPages, put_below}

abbrev pub planned : {A : Type 0} → OnPages A → Plan PageCall PageReply A
planned p = plan_of page_replies p

-- whether a power cut blanks what is put so
abbrev pub volatile_as : How → Bool
volatile_as Lasting = false
volatile_as Volatile = true
volatile_as Through = false

module _ (z : ℕ) (Here : State → Type 0) where
  pub data Wp {A : Type 0} (There : A → State → Type 0) : ℕ → Plan PageCall PageReply A → State → Type 0 where
    ends : {most : ℕ} {a : A} {s : State} → Here s → There a s → Wp There most (gives a) s
    calls : {most : ℕ} {c : PageCall} {p : PageReply → Plan PageCall PageReply A} {s : State} (rest : ℕ) → Here s → price z s c + rest ≤ most → ((r : PageReply) (t : State) → Answers z c s r t → Wp There rest (p r) t) → Wp There most (asks c p) s

  module _ {A : Type 0} where
    pub wp-here : {There : A → State → Type 0} {most : ℕ} {p : Plan PageCall PageReply A} {s : State} → Wp There most p s → Here s
    wp-here (Wp.ends h q) = h
    wp-here (Wp.calls rest h l f) = h

    pub wp-comes : {There : A → State → Type 0} {most : ℕ} {p : Plan PageCall PageReply A} {s t : State} {a : A} → Wp There most p s → (w : Comes (kept z) p s a t) → There a t × (spent (price z) w ≤ most)
    unfolding spent
    wp-comes (Wp.ends h q) Comes.ends = (q, omega arith)
    wp-comes (Wp.calls rest h l f) (Comes.goes_on x w) = let (q, b) = wp-comes (f _ _ x) w in (q, omega arith)

    pub wp-cut : {There : A → State → Type 0} {p : Plan PageCall PageReply A} {s u : State} → CutShort (kept z) p s u → {most : ℕ} → Wp There most p s → (t : State) × Here t × Down z t u
    wp-cut {s = s} (CutShort.at_once d) w = (s, wp-here w, d)
    wp-cut (CutShort.in_call {t = t} x d) (Wp.calls rest h l f) = (t, wp-here (f _ _ x), d)
    wp-cut (CutShort.later x w) (Wp.calls rest h l f) = wp-cut w (f _ _ x)

    pub wp-more : {There There' : A → State → Type 0} {most : ℕ} (more : ℕ) {p : Plan PageCall PageReply A} {s : State} → most ≤ more → ((a : A) (t : State) → There a t → There' a t) → Wp There most p s → Wp There' more p s
    wp-more more l g (Wp.ends h q) = Wp.ends h (g _ _ q)
    wp-more more l g (Wp.calls rest h m f) = Wp.calls rest h (omega arith) (λ r t x. wp-more rest (omega arith) g (f r t x))

    pub wp-cond : {There : A → State → Type 0} {most : ℕ} {s : State} (b : Bool) {p q : Plan PageCall PageReply A} → (b ≡ true → Wp There most p s) → (b ≡ false → Wp There most q s) → Wp There most (cond b p q) s
    wp-cond true f g = f refl
    wp-cond false f g = g refl

    pub wp-some : {B : Type 0} {There : A → State → Type 0} {most : ℕ} {s : State} (o : Option B) {p : B → Plan PageCall PageReply A} {q : Plan PageCall PageReply A} → ((x : B) → o ≡ Some x → Wp There most (p x) s) → (o ≡ None → Wp There most q s) →
        Wp There most (if_some o p q) s
    wp-some (Some x) f g = f x refl
    wp-some None f g = g refl

  -- one plan after another
  pub wp-then : {A B : Type 0} {There : B → State → Type 0} {f : A → Plan PageCall PageReply B} (two one : ℕ) {most : ℕ} {p : Plan PageCall PageReply A} {s : State} → one + two ≤ most → Wp (λ a t. Wp There two (f a) t) one p s → Wp There most (plan_then p f) s
  unfolding plan_then
  wp-then two one l (Wp.ends h q) = wp-more _ (omega arith) (λ a t x. x) q
  wp-then two one l (Wp.calls rest h m f) = Wp.calls (rest + two) h (omega arith) (λ r t x. wp-then two rest (omega arith) (f r t x))

  -- loops, whose turns read nothing
  module _ {A : Type 0} (J : ℕ → A → State → Type 0) where
    pub wp-turns : (n : ℕ) (f : ℕ → A → OnPages A) → ((i : ℕ) (a : A) (s : State) → i < n → Here s → J i a s → Wp (J (suc i)) 0 (planned (f i a)) s) → (a : A) (s : State) → Here s → J 0 a s → Wp (J n) 0 (planned (turns n f a)) s
    unfolding turns plan_of
    wp-turns zero f step a s h j = Wp.ends h j
    wp-turns (suc n) f step a s h j =
        wp-then 0 0 (omega arith) (held (wp-turns n f (λ i a s l. step i a s (omega arith)) a s h j))
      where
        held : {p : Plan PageCall PageReply A} {s : State} {m : ℕ} → Wp (J n) m p s → Wp (λ a t. Wp (J (suc n)) 0 (planned (f n a)) t) m p s
        held (Wp.ends h q) = Wp.ends h (step n _ _ (omega arith) h q)
        held (Wp.calls rest h l g) = Wp.calls rest h l (λ r t x. held (g r t x))

    module _ {B : Type 0} (K : B → State → Type 0) where
      abbrev pub Turned : ℕ → Turn A B → State → Type 0
      Turned i (on a) s = J i a s
      Turned i (out b) s = K b s

      tried : (n : ℕ) (f : ℕ → A → OnPages (Turn A B)) → ((i : ℕ) (a : A) (s : State) → i < n → Here s → J i a s → Wp (Turned (suc i)) 0 (planned (f i a)) s) → (a : A) (s : State) → Here s → J 0 a s → Wp (Turned n) 0 (planned (tries n f a)) s
      unfolding tries plan_of
      tried zero f step a s h j = Wp.ends h j
      tried (suc n) f step a s h j = wp-then 0 0 (omega arith) (held (tried n f (λ i a s l. step i a s (omega arith)) a s h j))
        where
          goes : (x : Turn A B) (s : State) → Here s → Turned n x s → Wp (Turned (suc n)) 0 (planned (go (f n) x)) s
          goes (on a) s h q = step n a s (omega arith) h q
          goes (out b) s h q = Wp.ends h q

          held : {p : Plan PageCall PageReply (Turn A B)} {s : State} {m : ℕ} → Wp (Turned n) m p s → Wp (λ x t. Wp (Turned (suc n)) 0 (planned (go (f n) x)) t) m p s
          held (Wp.ends h q) = Wp.ends h (goes _ _ h q)
          held (Wp.calls rest h l g) = Wp.calls rest h l (λ r t x. held (g r t x))

      pub wp-loop : (n : ℕ) (f : ℕ → A → OnPages (Turn A B)) (k : A → OnPages B) → ((i : ℕ) (a : A) (s : State) → i < n → Here s → J i a s → Wp (Turned (suc i)) 0 (planned (f i a)) s) →
          ((a : A) (s : State) → Here s → J n a s → Wp K 0 (planned (k a)) s) → (a : A) (s : State) → Here s → J 0 a s → Wp K 0 (planned (loop n f a k)) s
      unfolding loop plan_of
      wp-loop n f k step last a s h j = wp-then 0 0 (omega arith) (held (tried n f step a s h j))
        where
          goes : (x : Turn A B) (s : State) → Here s → Turned n x s → Wp K 0 (planned (past k x)) s
          goes (on a) s h q = last a s h q
          goes (out b) s h q = Wp.ends h q

          held : {p : Plan PageCall PageReply (Turn A B)} {s : State} {m : ℕ} → Wp (Turned n) m p s → Wp (λ x t. Wp K 0 (planned (past k x)) t) m p s
          held (Wp.ends h q) = Wp.ends h (goes _ _ h q)
          held (Wp.calls rest h l g) = Wp.calls rest h l (λ r t x. held (g r t x))

  -- a put below, of each kind
  pub wp-put : {There : Bool → State → Type 0} {most : ℕ} (n : ℕ) (b : List ℕ) (h : How) (s : State) → Here s → put_price z s ≤ most → ((r : PageReply) (t : State) → PutAnswers z n b (volatile_as h) s r t → Here t × There (said_in r) t) →
      Wp There most (planned (put_below n b h)) s
  unfolding plan_of price told_in
  wp-put n b Lasting s h l f = Wp.calls 0 h (omega arith) (λ r t a. let (k, q) = f r t (put-answers Putting.by_put a) in Wp.ends k q)
  wp-put n b Volatile s h l f = Wp.calls 0 h (omega arith) (λ r t a. let (k, q) = f r t (put-answers Putting.by_put_volatile a) in Wp.ends k q)
  wp-put n b Through s h l f = Wp.calls 0 h (omega arith) (λ r t a. let (k, q) = f r t (put-answers Putting.by_put_through a) in Wp.ends k q)
