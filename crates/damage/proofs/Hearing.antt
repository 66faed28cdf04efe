-- What is heard is the burst, damaged within the guard.
use Rattle.std.proofs.Common.{◌≡◌, ℕ, zero, suc, ◌+◌, ◌^◌, ◌<◌, ◌≤◌, Bool, true, false, cond, not, leb, List, [], ◌∷◌, length, get_or, take, set, Some, None, Ok, Option, Result, Vec, sym, refl, ap, ◌∙◌, subst, arith}
use lib.Bits.{bit_xor, xor_assoc, xor_lt}
use lib.Count.{ones}
use Rattle.damage.proofs.Digits.{one_of_pow, xor_ones}
use Rattle.damage.proofs.Flips.{length_flipped, within_parts}
use Rattle.damage.specs.Damages.{all_within, flipped, heard, hearing, inverted, is_within, only_if, rest, shortens, twice}
use Rattle.damage.specs.declared.DamageError.{DamageError}
use Rattle.damage.specs.declared.DamageError.TheVariants.{NothingCut, FlipOutside, FlipTwice, BeyondGuard}
use Rattle.damage.specs.declared.Flip.{Flip}
use Rattle.frame.proofs.Distance.{none_inverted}
use Rattle.frame.specs.Damage.{Damaged, Fits, distance}
use Rattle.std.proofs.lemmas.Nat.{pow_below}
use Rattle.std.proofs.ByRecursion.{All-get_or, All-set, All-take}
use Rattle.std.proofs.lemmas.List.{length-set, length-take, with_items_is, take_all}
use Rattle.std.proofs.lemmas.Bool.{and_parts, le-leb, leb-true}
use Rattle.std.specs.Option.{ok_or, option_map}
use Rattle.std.specs.Vec.{with_items}
use Rattle.std.specs.declared.alloc.Global.{Global}

-- one bit more or less
near : (xs ys : List ℕ) (p c : ℕ) → distance xs (set ys p (bit_xor (get_or ys p 0) (2 ^ c))) ≤ distance xs ys + 1
near [] ys p c = omega arith
near (x ∷ xs) [] p c = omega arith
near (x ∷ xs) (y ∷ ys) zero c =
    let one = one_of_pow c in
    let most = xor_ones (bit_xor x y) (2 ^ c) in
    let same = ap ones (xor_assoc x y (2 ^ c)) in
    omega arith
near (x ∷ xs) (y ∷ ys) (suc p) c = let rest = near xs ys p c in omega arith

far : (fs : List Flip) (xs ys : List ℕ) → distance xs (flipped fs ys) ≤ distance xs ys + length fs
unfolding flipped
far [] xs ys = omega arith
far (f ∷ fs) xs ys =
    let first = near xs ys f.place f.bit in
    let others = far fs xs (inverted f ys) in
    omega arith

still_fits : (w : ℕ) (fs : List Flip) (ss : List ℕ) → all_within (length ss) w fs ≡ true → Fits w ss → Fits w (flipped fs ss)
unfolding all_within flipped
still_fits w [] ss h fit = fit
still_fits w (f ∷ fs) ss h fit =
    let both = and_parts (is_within (length ss) w f) (all_within (length ss) w fs) h in
    let p = within_parts (length ss) w f both.0 in
    let P : ℕ → Type 0 = λ s. s < 2 ^ w in
    let x = bit_xor (get_or ss f.place 0) (2 ^ f.bit) in
    let here = xor_lt w (get_or ss f.place 0) (2 ^ f.bit) (All-get_or P ss f.place 0 p.0 fit) (pow_below f.bit w p.1) in
    still_fits w fs (inverted f ss) (ap (λ n. all_within n w fs) (length-set ss f.place x) ∙ both.1) (All-set P ss f.place x here fit)

passed :
    (test : Bool) (fault : DamageError) (next : Result (List ℕ) DamageError) (b : List ℕ) →
    only_if test fault next ≡ Ok b →
    (test ≡ true) × (next ≡ Ok b)
passed true fault next b h = (refl, h)
passed false fault next b h = (cc, cc)

ok_same : (x b : List ℕ) → ◌≡◌ {A = Result (List ℕ) DamageError} (Ok x) (Ok b) → x ≡ b
ok_same x b h = cc

rest_short : (cut : Option ℕ) (ss : List ℕ) → length (rest cut ss) ≤ length ss
rest_short None ss = omega arith
rest_short (Some n) ss = simp length-take (omega arith)

take_length : (n : ℕ) (ss : List ℕ) → take (length (take n ss)) ss ≡ take n ss
take_length zero ss = refl
take_length (suc n) [] = refl
take_length (suc n) (s ∷ ss) = ap (λ l. s ∷ l) (take_length n ss)

rest_take : (cut : Option ℕ) (ss : List ℕ) → take (length (rest cut ss)) ss ≡ rest cut ss
rest_take None ss = take_all (length ss) ss (omega arith)
rest_take (Some n) ss = take_length n ss

rest_fits : (w : ℕ) (cut : Option ℕ) (ss : List ℕ) → Fits w ss → Fits w (rest cut ss)
rest_fits w None ss fit = fit
rest_fits w (Some n) ss fit = All-take (λ s. s < 2 ^ w) n ss fit

-- what is heard is the burst with zero or more symbols left off and at most guard bits inverted
pub within_guard :
    (width guard : ℕ) (cut : Option ℕ) (fs : List Flip) (ss b : List ℕ) →
    hearing width guard cut fs ss ≡ Ok b →
    Fits width ss →
    Damaged width guard ss b
within_guard width guard cut fs ss b h fit =
    let r = rest cut ss in
    let last = only_if (leb (length fs) guard) BeyondGuard (Ok (heard cut fs ss)) in
    let third = only_if (not (twice fs)) FlipTwice last in
    let second = only_if (all_within (length r) width fs) FlipOutside third in
    let one = passed (shortens cut ss) NothingCut second b h in
    let two = passed (all_within (length r) width fs) FlipOutside third b one.1 in
    let three = passed (not (twice fs)) FlipTwice last b two.1 in
    let four = passed (leb (length fs) guard) BeyondGuard (Ok (heard cut fs ss)) b three.1 in
    let few = leb-true (length fs) guard four.0 in
    let D : List ℕ → Type 0 = λ s. Damaged width guard ss s in
    let is : flipped fs r ≡ b = ok_same (flipped fs r) b four.1 in
    let none = none_inverted r in
    let most = far fs r r in
    let same = ap (λ xs. distance xs (flipped fs r)) (rest_take cut ss) in
    subst D is (length r, rest_short cut ss, length_flipped fs r, still_fits width fs r two.0 (rest_fits width cut ss fit), omega arith)

-- a cut that leaves off something
pub cut_taken :
    {X : Type 0} (now : X → List ℕ) (o : Option X) (t : Bool) (r : List ℕ) (x : X) →
    option_map now o ≡ cond t (Some r) None →
    Ok x ≡ ok_or o NothingCut →
    Some (now x) ≡ cond t (Some r) None
cut_taken now None t r x h e = cc
cut_taken now (Some y) t r x h e = let same : x ≡ y = cc in ap (λ z. Some (now z)) same ∙ h

pub cut_parts : (t : Bool) (x r : List ℕ) → Some x ≡ cond t (Some r) None → (t ≡ true) × (x ≡ r)
cut_parts true x r h = (refl, cc)
cut_parts false x r h = (cc, cc)

-- every check passed
all_passed :
    (width guard : ℕ) (cut : Option ℕ) (fs : List Flip) (ss : List ℕ) →
    shortens cut ss ≡ true →
    all_within (length (rest cut ss)) width fs ≡ true →
    not (twice fs) ≡ true →
    length fs ≤ guard →
    hearing width guard cut fs ss ≡ Ok (heard cut fs ss)
all_passed width guard cut fs ss one two three four =
    let told : Result (List ℕ) DamageError = Ok (heard cut fs ss) in
    let last = only_if (leb (length fs) guard) BeyondGuard told in
    let third = only_if (not (twice fs)) FlipTwice last in
    let second = only_if (all_within (length (rest cut ss)) width fs) FlipOutside third in
    ap (λ b. only_if b NothingCut second) one ∙
    ap (λ b. only_if b FlipOutside third) two ∙
    ap (λ b. only_if b FlipTwice last) three ∙
    ap (λ b. only_if b BeyondGuard told) (le-leb (length fs) guard four)

-- what is in the Vec after every check passed
pub told :
    (width guard : ℕ) (cut : Option ℕ) (fs : List Flip) (ss r out : List ℕ) (v : Vec ℕ Global) →
    Some r ≡ cond (shortens cut ss) (Some (rest cut ss)) None →
    all_within (length r) width fs ≡ true →
    not (twice fs) ≡ true →
    length fs ≤ guard →
    out ≡ flipped fs r →
    v.len ≡ length r →
    hearing width guard cut fs ss ≡ Ok (with_items v out).items
told width guard cut fs ss r out v cuts two three four is long =
    let c = cut_parts (shortens cut ss) r (rest cut ss) cuts in
    let whole : length out ≡ v.len = ap length is ∙ length_flipped fs r ∙ sym long in
    all_passed width guard cut fs ss c.0 (ap (λ xs. all_within (length xs) width fs) (sym c.1) ∙ two) three four ∙
    ap Ok (ap (flipped fs) (sym c.1) ∙ sym is ∙ sym (with_items_is v out whole))
