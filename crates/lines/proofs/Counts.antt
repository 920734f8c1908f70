-- How many words there are, and which stands where. Assumes nothing.
use Rattle.std.proofs.Common.{◌≡◌, ℕ, ◌<◌, ◌≤◌, List, [], length, get_or, Ok, Err, sym, arith, Bor}
use Rattle.std.proofs.lemmas.Bool.Decides.{nat_tests}
use Rattle.std.proofs.lemmas.List.{length-map, get_or-map, get_or_past}
use Rattle.lines.specs.declared.faults.Fault.TheVariants as fault
use Rattle.lines.specs.Arguments.{counted}
use Rattle.lines.specs.Of.{words_in}

pub too_few : (least most : ℕ) (ws : List (Bor (List ℕ))) → length ws < least → Err fault.TooFewWords ≡ counted least most (words_in ws)
unfolding counted
too_few least most ws h = let e = length-map ws (λ w. w.now) in grind (arith, nat_tests)

pub too_many : (least most : ℕ) (ws : List (Bor (List ℕ))) → least ≤ length ws → most < length ws → Err fault.TooManyWords ≡ counted least most (words_in ws)
unfolding counted
too_many least most ws h l = let e = length-map ws (λ w. w.now) in grind (arith, nat_tests)

pub so_many : (least most : ℕ) (ws : List (Bor (List ℕ))) → least ≤ length ws → length ws ≤ most → Ok tt ≡ counted least most (words_in ws)
unfolding counted
so_many least most ws h l = let e = length-map ws (λ w. w.now) in grind (arith, nat_tests)

pub word_there : (ws : List (Bor (List ℕ))) (i : ℕ) (d : Bor (List ℕ)) → i < length ws → (get_or ws i d).now ≡ get_or (words_in ws) i []
word_there ws i d h = sym (get_or-map (λ w. w.now) ws i d [] h)

pub word_missing : (ws : List (Bor (List ℕ))) (i : ℕ) → length ws ≤ i → [] ≡ get_or (words_in ws) i []
word_missing ws i h = let e = length-map ws (λ w. w.now) in sym (get_or_past (words_in ws) i [] (omega arith))
