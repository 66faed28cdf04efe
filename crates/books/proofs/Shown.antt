-- Each entry in the books of memory shows what the account's books then have.
use Rattle.std.proofs.Common.{◌≡◌, ℕ, suc, ◌+◌, ◌-◌, cond, eqb, List, [], ◌∷◌, ◌++◌, map, reverse, length, set, Some, None, Ok, Option, sym, refl, ap, ◌∙◌, add-one, arith}
use mathlib.Core.List.{reverse-cons}
use lib.Dec.{eqb-zero-suc}
use Rattle.account.specs.Books.{Down, Up, Station, arrives as account_arrives, asked, by_class, collected, ended as account_ended, ended_down, ends_send, enters as account_enters, hands, marks, newest_hand_out, newest_sent, offer_state, offered as account_offered, oldest_number, restarted, turned, waiting as account_waiting, with_handed}
use Rattle.account.specs.Line.{new_station}
use Rattle.account.specs.declared.books.HandOut.{HandOut}
use Rattle.account.specs.declared.books.Item.{Item}
use Rattle.account.specs.declared.books.OfferState.{OfferState}
use Rattle.account.specs.declared.books.OfferState.TheVariants.{Waiting, Out, Marked}
use Rattle.account.specs.declared.books.SendState.{SendState}
use Rattle.account.specs.declared.books.SendState.TheVariants.{Open, Ended}
use Rattle.account.specs.declared.books.Sending.{Sending}
use Rattle.books.proofs.States.{cond_again, getD_more, set_last, with_state_at, with_state_length}
use Rattle.books.specs.Calls.{asked_seen, brought_seen, class_given, closed_seen, ended_seen, handed_seen, heard_seen, marked_seen, offered_seen}
use Rattle.books.specs.Seen.{Seen, SeenUp, enters, first_of, handed, marked, nothing_seen, offered, waiting, with_newest}
use Rattle.books.specs.Shows.{Given, Shows, ShowsUp, numbers}
use Rattle.queue.specs.Fifo.{take_contents}
use Rattle.rules.specs.Reader as rd
use Rattle.rules.specs.Reader.{Deed, Turn, still, took, took_in, busy, gave, bare}
use Rattle.rules.specs.Records.{outcome_of}
use Rattle.rules.specs.declared.records.Class.{Class}
use Rattle.rules.specs.declared.records.Class.TheVariants.{First, Second}
use Rattle.rules.specs.declared.records.Ending.{Ending}
use Rattle.rules.specs.declared.records.Ending.TheVariants as ending
use Rattle.rules.specs.declared.records.Mark.{Mark}
use Rattle.rules.specs.declared.records.Mark.TheVariants.{Doubtful}
use Rattle.rules.specs.declared.records.ReaderPlan.{ReaderPlan}
use Rattle.rules.specs.declared.records.Request.{Request}
use Rattle.rules.specs.declared.records.Request.TheVariants.{Reset, Status, Send, Poll}
use Rattle.std.proofs.ByRecursion.{All-push, All-weaker}
use Rattle.std.proofs.lemmas.List.{length-map, length_push, length-reverse, length-set, map_push}
use Rattle.std.proofs.lemmas.Bool.{cond-false}
use Rattle.std.specs.List.{AllByRecursion}

-- ## the sends

-- a book with one more at its front, from behind
pushed : {A B : Type 0} (f : A → B) (x : A) (l : List A) (v : List B) → v ≡ reverse (map f l) → v ++ (f x ∷ []) ≡ reverse (map f (x ∷ l))
pushed f x l v e = ap (λ k. k ++ (f x ∷ [])) e ∙ sym (reverse-cons (f x) (map f l))

pub shows_new : (f : ReaderPlan) → Shows nothing_seen (new_station f)
shows_new f = (
  record { sends = refl; newest = refl; entered = refl },
  record { accepted = refl; offers = λ n. refl; waiting1 = refl; waiting2 = refl; newest = refl; arrived = refl; given1 = tt; given2 = tt; given = omega arith },
)

-- as many states are seen as there are sends
counted : (v : List SendState) (l : List Sending) → v ≡ reverse (map (λ s. s.state) l) → length v ≡ length l
counted v l e = ap length e ∙ length-reverse (map (λ s. s.state) l) ∙ length-map l (λ s. s.state)

pub shows_asked : (r : Request) (v : Seen) (s : Station) → Shows v s → Shows (asked_seen r v) (asked r s)
shows_asked Reset v s h = h
shows_asked Status v s h = h
shows_asked (Send m) v s h = (
  record {
    sends = pushed (λ x. x.state) (record { item = record { number = length s.down.sends + 1; message = m }; state = Open }) s.down.sends v.down.sends h.0.sends;
    newest = length_push v.down.sends Open ∙ ap (λ n. n + 1) (counted v.down.sends s.down.sends h.0.sends);
    entered = h.0.entered;
  },
  h.1,
)
shows_asked (Poll c) v s h = h

ended_last : (e : Ending) (l : List Sending) → set (reverse (map (λ s. s.state) l)) (length (reverse (map (λ s. s.state) l)) - 1) (Ended (outcome_of e)) ≡ reverse (map (λ s. s.state) (ends_send e l))
ended_last e [] = refl
ended_last e (s ∷ l) = set_last (map (λ s. s.state) l) s.state (Ended (outcome_of e))

ended_number : (e : Ending) (l : List Sending) → newest_sent (ends_send e l) ≡ newest_sent l
ended_number e [] = refl
ended_number e (s ∷ l) = refl

shows_closed : (r : Request) (e : Ending) (v : Seen) (s : Station) → Shows v s → Shows (closed_seen r (outcome_of e) v) (record { reader = s.reader; down = ended_down r e s.down; up = s.up })
shows_closed Reset e v s h = (record { sends = h.0.sends; newest = h.0.newest; entered = h.0.entered }, h.1)
shows_closed Status e v s h = h
shows_closed (Send m) e v s h = (
  record {
    sends = ap (λ k. set k (length k - 1) (Ended (outcome_of e))) h.0.sends ∙ ended_last e s.down.sends;
    newest = length-set v.down.sends _ _ ∙ h.0.newest ∙ sym (ended_number e s.down.sends);
    entered = h.0.entered;
  },
  h.1,
)
shows_closed (Poll c) e v s h = h

-- what arrived, after an ending
abbrev brought_up : ℕ → Ending → Up → Up
brought_up n e u = record { offered = u.offered; waiting1 = u.waiting1; waiting2 = u.waiting2; handed = u.handed; arrived = account_arrives n e u.arrived; fetched = u.fetched }

shows_brought : (n : ℕ) (e : Ending) (v : Seen) (s : Station) → Shows v s → Shows (brought_seen n (outcome_of e) v) (record { reader = s.reader; down = s.down; up = brought_up n e s.up })
shows_brought n ending.Done v s h = h
shows_brought n ending.Confirmed v s h = h
shows_brought n ending.Busy v s h = h
shows_brought n (ending.Brought m) v s h = (
  h.0,
  record {
    accepted = h.1.accepted;
    offers = h.1.offers;
    waiting1 = h.1.waiting1;
    waiting2 = h.1.waiting2;
    newest = h.1.newest;
    arrived = pushed (λ i. i.number) (record { number = n; message = m }) s.up.arrived v.up.arrived h.1.arrived;
    given1 = h.1.given1;
    given2 = h.1.given2;
    given = h.1.given;
  },
)
shows_brought n ending.Empty v s h = h
shows_brought n ending.Unserved v s h = h
shows_brought n ending.Doubted v s h = h

pub shows_ended : (n : ℕ) (r : Request) (e : Ending) (v : Seen) (s : Station) → Shows v s → Shows (ended_seen n r (outcome_of e) v) (account_ended n r e s)
shows_ended n r e v s h =
    shows_closed r e (brought_seen n (outcome_of e) v) (record { reader = s.reader; down = s.down; up = brought_up n e s.up }) (shows_brought n e v s h)

pub shows_collected : (v : Seen) (s : Station) → Shows v s → Shows v (collected s)
shows_collected v s h = (record { sends = h.0.sends; newest = h.0.newest; entered = h.0.entered }, h.1)

-- ## the offers

either_shown : (c : Class) (b y : List Item) {a x : List ℕ} → a ≡ numbers b → x ≡ numbers y → by_class c a x ≡ numbers (by_class c b y)
either_shown First b y p q = p
either_shown Second b y p q = q

either_given : (c : Class) (P : ℕ → Type 0) (a x : List ℕ) → AllByRecursion P a → AllByRecursion P x → AllByRecursion P (by_class c a x)
either_given First P a x p q = p
either_given Second P a x p q = q

waits_shown : (c : Class) (v : SeenUp) (u : Up) → ShowsUp v u → waiting c v ≡ numbers (account_waiting c u)
waits_shown c v u h = either_shown c u.waiting1 u.waiting2 h.waiting1 h.waiting2

waits_given : (c : Class) (v : SeenUp) (u : Up) → ShowsUp v u → AllByRecursion (Given v) (waiting c v)
waits_given c v u h = either_given c (Given v) v.waiting1 v.waiting2 h.given1 h.given2

pub shows_offered : (o : rd.Offered) (v : Seen) (s : Station) → Shows v s → Shows (offered_seen o v) (account_offered o s)
shows_offered (rd.declined f) v s h = h
shows_offered (rd.accepted c m r) v s h =
    let u = h.1 in
    let P = Given v.up in
    let Q = Given (offered c v).up in
    let w = waiting c v.up in
    let more : (n : ℕ) → P n → Q n = λ n le. omega (arith, length_push v.up.offers Waiting) in
    let item : Item = record { number = length s.up.offered + 1; message = m } in
    let next : w ++ ((length v.up.offers + 1) ∷ []) ≡ numbers (account_waiting c s.up ++ (item ∷ [])) =
    ap (λ k. w ++ ((k + 1) ∷ [])) u.accepted ∙
    ap (λ l. l ++ (item.number ∷ [])) (waits_shown c v.up s.up u) ∙
    sym (map_push (λ i. i.number) (account_waiting c s.up) item) in
    let all_next : AllByRecursion Q (w ++ ((length v.up.offers + 1) ∷ [])) =
    All-push Q w (length v.up.offers + 1) (All-weaker P Q more w (waits_given c v.up s.up u)) (omega (arith, length_push v.up.offers Waiting)) in (
      h.0,
      record {
        accepted = length_push v.up.offers Waiting ∙ ap (λ n. n + 1) u.accepted ∙ add-one (length s.up.offered);
        offers = λ n. getD_more v.up.offers n Waiting ∙ u.offers n;
        waiting1 = either_shown c (account_waiting c s.up ++ (item ∷ [])) s.up.waiting1 next u.waiting1;
        waiting2 = either_shown c s.up.waiting2 (account_waiting c s.up ++ (item ∷ [])) u.waiting2 next;
        newest = u.newest;
        arrived = u.arrived;
        given1 = either_given c Q (w ++ ((length v.up.offers + 1) ∷ [])) v.up.waiting1 all_next (All-weaker P Q more v.up.waiting1 u.given1);
        given2 = either_given c Q v.up.waiting2 (w ++ ((length v.up.offers + 1) ∷ [])) (All-weaker P Q more v.up.waiting2 u.given2) all_next;
        given = more v.up.newest u.given;
      },
    )

-- a mark of what was handed out last
marked_state : (k : Mark) (l : List HandOut) (n : ℕ) → cond (eqb (newest_hand_out l) (suc n)) (Marked k) (offer_state (suc n) l) ≡ offer_state (suc n) (marks (Some k) l)
marked_state k [] n = cond-false (eqb 0 (suc n)) (Marked k) Waiting (eqb-zero-suc n)
marked_state k (h ∷ l) n = cond_again (eqb h.offer.item.number (suc n)) (Marked k) h.state (offer_state (suc n) l)

marked_number : (k : Mark) (l : List HandOut) → newest_hand_out l ≡ newest_hand_out (marks (Some k) l)
marked_number k [] = refl
marked_number k (h ∷ l) = refl

-- what is given stays so when a state changes
given_still : (v : Seen) (t : OfferState) (n : ℕ) → Given v.up n → Given (with_newest t v).up n
given_still v t n le = omega (arith, with_state_length v.up.newest t v.up.offers)

pub shows_marked : (k : Option Mark) (v : Seen) (s : Station) → Shows v s → Shows (marked_seen k v) (record { reader = s.reader; down = s.down; up = with_handed (marks k s.up.handed) s.up })
shows_marked None v s h = h
shows_marked (Some k) v s h =
    let u = h.1 in
    let j = v.up.newest in
    let l = v.up.offers in
    let all : (ns : List ℕ) → AllByRecursion (Given v.up) ns → AllByRecursion (Given (marked k v).up) ns = All-weaker (Given v.up) (Given (marked k v).up) (given_still v (Marked k)) in (
      h.0,
      record {
        accepted = with_state_length j (Marked k) l ∙ u.accepted;
        offers = λ n.
            with_state_at j (Marked k) l n Waiting u.given ∙
            ap (λ x. cond (eqb j (suc n)) (Marked k) x) (u.offers n) ∙
            ap (λ i. cond (eqb i (suc n)) (Marked k) (offer_state (suc n) s.up.handed)) u.newest ∙
            marked_state k s.up.handed n;
        waiting1 = u.waiting1;
        waiting2 = u.waiting2;
        newest = u.newest ∙ marked_number k s.up.handed;
        arrived = u.arrived;
        given1 = all v.up.waiting1 u.given1;
        given2 = all v.up.waiting2 u.given2;
        given = given_still v (Marked k) j u.given;
      },
    )

pub shows_restarted : (v : Seen) (s : Station) → Shows v s → Shows (marked_seen (rd.marked Doubtful s.reader.out) v) (restarted s)
shows_restarted v s h = shows_marked (rd.marked Doubtful s.reader.out) v s h

first_shown : (l : List Item) → first_of (numbers l) ≡ oldest_number l
first_shown [] = refl
first_shown (i ∷ l) = refl

left_shown : (l : List Item) → take_contents (numbers l) ≡ numbers (take_contents l)
left_shown [] = refl
left_shown (i ∷ l) = refl

first_given : (v : SeenUp) (l : List ℕ) → AllByRecursion (Given v) l → Given v (first_of l)
first_given v [] h = omega arith
first_given v (n ∷ l) h = h.0

left_given : (P : ℕ → Type 0) (l : List ℕ) → AllByRecursion P l → AllByRecursion P (take_contents l)
left_given P [] h = tt
left_given P (n ∷ l) h = h.1

abbrev entered_down : ℕ → Deed → Down → Down
entered_down n d b = record { sends = b.sends; entered = account_enters n d b.entered; collected = b.collected; resets = b.resets }

shows_taken : (n : ℕ) (d : Deed) (v : Seen) (s : Station) → Shows v s → Shows (cond (took_in d) (enters n v) v) (record { reader = s.reader; down = entered_down n d s.down; up = s.up })
shows_taken n still v s h = h
shows_taken n (took m) v s h = (
  record {
    sends = h.0.sends;
    newest = h.0.newest;
    entered = pushed (λ i. i.number) (record { number = n; message = m }) s.down.entered v.down.entered h.0.entered;
  },
  h.1,
)
shows_taken n busy v s h = h
shows_taken n (gave c m) v s h = h
shows_taken n bare v s h = h

shows_given : (d : Deed) (v : Seen) (s : Station) → Shows v s → Shows (handed_seen (class_given d) v) (record { reader = s.reader; down = s.down; up = hands d s.up })
shows_given still v s h = h
shows_given (took m) v s h = h
shows_given busy v s h = h
shows_given (gave c m) v s h =
    let u = h.1 in
    let w = waiting c v.up in
    let j = first_of w in
    let l = v.up.offers in
    let items = account_waiting c s.up in
    let Q = Given (handed c v).up in
    let number : j ≡ oldest_number items = ap first_of (waits_shown c v.up s.up u) ∙ first_shown items in
    let left : take_contents w ≡ numbers (take_contents items) = ap take_contents (waits_shown c v.up s.up u) ∙ left_shown items in
    let was_given : Given v.up j = first_given v.up w (waits_given c v.up s.up u) in
    let more : (n : ℕ) → Given v.up n → Q n = λ n le. omega (arith, with_state_length j Out l) in
    let all : (ns : List ℕ) → AllByRecursion (Given v.up) ns → AllByRecursion Q ns = All-weaker (Given v.up) Q more in
    let all_left : AllByRecursion Q (take_contents w) = left_given Q w (all w (waits_given c v.up s.up u)) in (
      h.0,
      record {
        accepted = with_state_length j Out l ∙ u.accepted;
        offers = λ n.
            with_state_at j Out l n Waiting was_given ∙
            ap (λ x. cond (eqb j (suc n)) Out x) (u.offers n) ∙
            ap (λ i. cond (eqb i (suc n)) Out (offer_state (suc n) s.up.handed)) number;
        waiting1 = either_shown c (take_contents items) s.up.waiting1 left u.waiting1;
        waiting2 = either_shown c s.up.waiting2 (take_contents items) u.waiting2 left;
        newest = number;
        arrived = u.arrived;
        given1 = either_given c Q (take_contents w) v.up.waiting1 all_left (all v.up.waiting1 u.given1);
        given2 = either_given c Q v.up.waiting2 (take_contents w) (all v.up.waiting2 u.given2) all_left;
        given = more j was_given;
      },
    )
shows_given bare v s h = h

pub shows_turned : (n : ℕ) (t : Turn) (v : Seen) (s : Station) → Shows v s → Shows (heard_seen n (Ok t) v) (turned n t s)
shows_turned n t v s h =
    let s1 : Station = record { reader = s.reader; down = entered_down n t.deed s.down; up = s.up } in
    let s2 : Station = record { reader = s.reader; down = s1.down; up = with_handed (marks t.mark s.up.handed) s.up } in
    let v1 = cond (took_in t.deed) (enters n v) v in
    shows_given t.deed (marked_seen t.mark v1) s2 (shows_marked t.mark v1 s1 (shows_taken n t.deed v s h))
