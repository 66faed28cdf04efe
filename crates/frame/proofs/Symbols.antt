-- Buffers as octets are put into them, each as the symbol that f makes of it.
use Rattle.std.proofs.Common.{◌≡◌, ℕ, ◌+◌, ◌-◌, ◌<◌, ◌≤◌, List, [], ◌∷◌, ◌++◌, map, length, length-append, get_or, take, drop, set, sym, ap, ◌∙◌, ap₂, arith}
use Rattle.frame.specs.Writing.{encoded_at, fitting}
use Rattle.std.proofs.lemmas.List.{append_assoc, drop_at, drop-drop, drop_more, length-map, length-take-le, map-append, map_more, set_at, take_all, take_at}

-- one more symbol, made of its octet by f
pub encode_more :
    (f : ℕ → ℕ) (os e l : List ℕ) (place i r : ℕ) →
    i < length os →
    place + length os ≤ length e →
    r ≡ f (get_or os i 0) →
    l ≡ take place e ++ (map f (take i os) ++ drop (place + i) e) →
    set l (place + i) r ≡ take place e ++ (map f (take (i + 1) os) ++ drop (place + (i + 1)) e)
encode_more f os e l place i r h room is inv =
    let ms = map f (take i os) in
    let p = take place e ++ ms in
    let long : length p ≡ place + i =
    simp (length-append, length-map) (let t = length-take-le place e (omega arith) in let u = length-take-le i os (omega arith) in omega (arith, t, u))
    in
    let n : place + i + 1 ≡ place + (i + 1) = omega arith in
    ap (λ v. set v (place + i) r) (inv ∙ sym (append_assoc (take place e) ms (drop (place + i) e)) ∙ ap (λ z. p ++ z) (drop_more e (place + i) 0 (omega arith))) ∙
    set_at p (get_or e (place + i) 0) (drop (place + i + 1) e) r (place + i) long ∙
    append_assoc (take place e) ms (r ∷ drop (place + i + 1) e) ∙
    ap₂ (λ x k. take place e ++ (ms ++ (x ∷ drop k e))) is n ∙
    ap (λ z. take place e ++ z) (sym (append_assoc ms (f (get_or os i 0) ∷ []) (drop (place + (i + 1)) e)) ∙ ap (λ z. z ++ drop (place + (i + 1)) e) (sym (map_more f os i 0 h)))

-- octets that are put in behind others are as if all were put in together
pub encoded_next :
    (f : ℕ → ℕ) (xs ys e : List ℕ) (n k : ℕ) → n ≤ length e → k ≡ n + length xs → encoded_at f k ys (encoded_at f n xs e) ≡ encoded_at f n (xs ++ ys) e
encoded_next f xs ys e n k h is =
    let mx = map f xs in
    let my = map f ys in
    let p = take n e ++ mx in
    let rest = drop (n + length xs) e in
    let end = k + length ys in
    let long : length p ≡ k = simp (length-append, length-map) (omega (arith, length-take-le n e h)) in
    let front : take k (p ++ rest) ≡ p = take_at p rest k long in
    let back : drop end (p ++ rest) ≡ drop end e =
    sym (drop-drop (length ys) k (p ++ rest)) ∙ ap (drop (length ys)) (drop_at p rest k long) ∙ drop-drop (length ys) (n + length xs) e ∙ ap (λ j. drop (j + length ys) e) (sym is)
    in
    let whole : end ≡ n + length (xs ++ ys) = simp length-append (omega arith) in
    ap (encoded_at f k ys) (sym (append_assoc (take n e) mx rest)) ∙
    ap₂ (λ x z. x ++ (my ++ z)) front back ∙
    append_assoc (take n e) mx (my ++ drop end e) ∙
    ap (λ z. take n e ++ z) (sym (append_assoc mx my (drop end e)) ∙ ap₂ (λ z j. z ++ drop j e) (sym (map-append f xs ys)) whole)

-- octets for which there is room are put in whole
pub put_whole :
    (f : ℕ → ℕ) (place r : ℕ) (os e l : List ℕ) →
    place + length os ≤ length e →
    r ≡ place + length (fitting place os e) →
    l ≡ encoded_at f place (fitting place os e) e →
    (r ≡ place + length os) × (l ≡ encoded_at f place os e)
put_whole f place r os e l room end is =
    let whole : fitting place os e ≡ os = take_all (length e - place) os (omega arith) in
    (end ∙ ap (λ z. place + length z) whole, is ∙ ap (λ z. encoded_at f place z e) whole)
