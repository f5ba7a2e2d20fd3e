-- Each step on the ticket word keeps the rule.
use Rattle.std.proofs.Common.{◌≡◌, ℕ, zero, suc, ◌+◌, ◌%◌, ◌^◌, ◌<◌, ◌≤◌, List, [], ◌∷◌, ◌++◌, set, get_or, sum_by, All, Option, Some, None, sym, ap, refl, subst, ◌∙◌, arith, length-set, get_or-set_same, ⊎_elim}
use Rattle.std.proofs.lemmas.List.Elements.{All-push}
use mathlib.Core.Option.{none, some, some-injective, some-ne-none}
use native.Mathlib.Decide.{dec_le}
use lib.ListN.{get_elem?}
use Rattle.atomic_table.specs.Table.{State, Me, keeps, step, Allows, Enters, Splits, Joins, opening}
use Rattle.atomic_table.proofs.Lists.{at_set, at_snoc, set_else}
use Rattle.semantics.specs.Loops.Arrangement.{times, once_below}
use Rattle.semantics.specs.Teams.Machine.{ticket_of, next_after}
use Rattle.semantics.proofs.TicketLaw.{times-append, once_below-more}
use Rattle.draw.specs.declared.rule.Size.{Size}
use Rattle.draw.specs.declared.rule.View.{View}
use Rattle.draw.specs.Tickets.{IsDraw}
use Rattle.draw.specs.Rule.{Fits, Seated, Counted, Dealt, idle, nobody, with_part_less, with_one_part, joined, view_after, TellsDraw, TellsEntry}
use Rattle.draw.proofs.Totals.{total-set, total-snoc, total-at, total-le, total_only}
use Rattle.draw.proofs.Counts.{times-snoc, none_below_zero, all_below, ticket_left, next_left, ticket_none, next_none}

abbrev St : Type 0
St = State (Unit {0}) View

-- The seats' part of the rule

abbrev AllFit : Size → List View → Type 0
AllFit z views = (id : ℕ) (v : View) → get_elem? views id ≡ some v → Fits z v

fit_set : (z : Size) (views : List View) (id : ℕ) (w : View) → AllFit z views → Fits z w → AllFit z (set views id w)
fit_set z views id w all new j u e = ⊎_elim (λ t. subst (Fits z) t.1 new) (λ t. all j u t.1) (at_set views id j w u e)

fit_snoc : (z : Size) (views : List View) (w : View) → AllFit z views → Fits z w → AllFit z (views ++ w ∷ [])
fit_snoc z views w all new j u e = ⊎_elim (λ t. all j u t) (λ t. subst (Fits z) t new) (at_snoc views w u j e)

seated_keeps : (z : Size) (views views' : List View) → sum_by (λ u. u.parts) views' ≡ sum_by (λ u. u.parts) views → AllFit z views' → Seated z views → Seated z views'
seated_keeps z views views' same fits r = record { parts = same ∙ r.parts; fits = fits }

idle_fits : (z k : Size) → Fits z (idle k)
idle_fits z k = record { size_is = λ h. absurd (omega arith); ends = omega arith; idle = λ _. refl }

-- a view changes, and has its parts still
seated-set : (z : Size) (views : List View) (id : ℕ) (v w : View) → get_elem? views id ≡ some v → w.parts ≡ v.parts → Fits z w → Seated z views → Seated z (set views id w)
seated-set z views id v w at same fit r =
    let t = total-set (λ u. u.parts) views id v w at in
    seated_keeps z views (set views id w) (omega arith) (fit_set z views id w r.fits fit) r

-- The tickets' part of the rule

counted_keeps : (z : Size) (word : ℕ) (views views' : List View) → sum_by (λ u. u.ends) views' ≡ sum_by (λ u. u.ends) views
    → ((x : ℕ) → sum_by (λ u. times x u.tickets) views' ≡ sum_by (λ u. times x u.tickets) views)
    → Counted z word views → Counted z word views'
counted_keeps z word views views' ends tickets r =
    record {
      drawn = r.drawn;
      at_most = r.at_most;
      word_is = let is = r.word_is in omega arith;
      ended = λ h. r.ended (omega arith);
      each_once = λ x. tickets x ∙ r.each_once x;
    }

-- a view changes, and has its tickets and ends still
counted-set : (z : Size) (word : ℕ) (views : List View) (id : ℕ) (v w : View) → get_elem? views id ≡ some v → w.ends ≡ v.ends → w.tickets ≡ v.tickets
    → Counted z word views → Counted z word (set views id w)
counted-set z word views id v w at ends tickets r =
    counted_keeps z word views (set views id w)
    (let t = total-set (λ u. u.ends) views id v w at in omega arith)
    (λ x. let t = total-set (λ u. times x u.tickets) views id v w at in let same = ap (times x) tickets in omega arith) r

-- a view is added that has none
counted-snoc : (z : Size) (word : ℕ) (views : List View) (w : View) → w.ends ≡ 0 → w.tickets ≡ [] → Counted z word views → Counted z word (views ++ w ∷ [])
counted-snoc z word views w ends tickets r =
    counted_keeps z word views (views ++ w ∷ [])
    (let t = total-snoc (λ u. u.ends) views w in omega arith)
    (λ x. let t = total-snoc (λ u. times x u.tickets) views w in let same = ap (times x) tickets in omega arith) r

none_yet : (m c e : ℕ) → (0 < e → m ≡ c) → m + e < c → e ≡ 0
none_yet m c e all less = grind arith

all_drawn : (m c e : ℕ) → m ≤ c → (0 < e → m ≡ c) → c ≤ m + e → m ≡ c
all_drawn m c e le all over = grind arith

-- The draw

-- the tickets of a seat are among those drawn
mine_below : (z : Size) (word : ℕ) (views : List View) (r : Counted z word views) (id : ℕ) (v : View) → get_elem? views id ≡ some v → All (λ t. t < r.drawn) v.tickets
mine_below z word views r id v at =
    all_below r.drawn v.tickets (λ x. omega (arith, r.each_once x, total-at (λ u. times x u.tickets) views id v at))

-- the tickets are counted again, and the draw is the event machine's
abbrev Gives : Size → ℕ → ℕ → List View → ℕ → View → Option ℕ → Type 0
Gives z count word views id v found =
    Counted z (word + 1) (set views id (view_after v found)) × IsDraw count v.tickets found (view_after v found).tickets

gives_ticket : (z : Size) (word : ℕ) (views : List View) (id : ℕ) (v : View) → get_elem? views id ≡ some v → word < z.count → Counted z word views → Gives z z.count word views id v (Some word)
gives_ticket z word views id v at less r =
    let w : View = view_after v (Some word) in
    let is = r.word_is in
    let none_ended : sum_by (λ u. u.ends) views ≡ 0 = none_yet r.drawn z.count (sum_by (λ u. u.ends) views) r.ended (omega arith) in
    let same : r.drawn ≡ word = omega arith in
    let ends = total-set (λ u. u.ends) views id v w at in
    let mine = mine_below z word views r id v at in
    let further : r.drawn < next_after r.drawn z.count = let n = next_left r.drawn z.count (omega arith) in omega arith in (
      record {
        drawn = word + 1;
        at_most = omega arith;
        word_is = omega arith;
        ended = λ h. absurd (omega arith);
        each_once = λ x.
            let t = total-set (λ u. times x u.tickets) views id v w at in
            let o = r.each_once x ∙ ap (once_below x) same in
            omega (arith, times-snoc x v.tickets word, once_below-more x word);
      },
      record {
        next = r.drawn;
        at_most = r.at_most;
        above = mine;
        ticket = sym (ap (λ (n : ℕ). ticket_of n z.count) same ∙ ticket_left word z.count less);
        below = All-push (λ t. t < next_after r.drawn z.count) v.tickets word (λ i h. let m = mine i h in omega arith) (omega arith);
      },
    )

gives_end : (z : Size) (word : ℕ) (views : List View) (id : ℕ) (v : View) → get_elem? views id ≡ some v → z.count ≤ word → Counted z word views → Gives z z.count word views id v None
gives_end z word views id v at over r =
    let w : View = view_after v None in
    let is = r.word_is in
    let out : r.drawn ≡ z.count = all_drawn r.drawn z.count (sum_by (λ u. u.ends) views) r.at_most r.ended (omega arith) in
    let ends = total-set (λ u. u.ends) views id v w at in
    let mine = mine_below z word views r id v at in (
      record {
        drawn = r.drawn;
        at_most = r.at_most;
        word_is = omega arith;
        ended = λ _. out;
        each_once = λ x. let t = total-set (λ u. times x u.tickets) views id v w at in let o = r.each_once x in omega arith;
      },
      record {
        next = r.drawn;
        at_most = r.at_most;
        above = mine;
        ticket = sym (ticket_none r.drawn z.count (omega arith));
        below = subst (λ (n : ℕ). All (λ t. t < n) v.tickets) (sym (next_none r.drawn z.count (omega arith))) mine;
      },
    )

gives : (z : Size) (word : ℕ) (views : List View) (id : ℕ) (v : View) → get_elem? views id ≡ some v → Counted z word views → Dec (z.count ≤ word) → Gives z z.count word views id v (ticket_of word z.count)
gives z word views id v at r (yes over) = subst (Gives z z.count word views id v) (sym (ticket_none word z.count over)) (gives_end z word views id v at over r)
gives z word views id v at r (no more) =
    let less : word < z.count = omega arith in
    subst (Gives z z.count word views id v) (sym (ticket_left word z.count less)) (gives_ticket z word views id v at less r)

parts_after : (v : View) (found : Option ℕ) → (view_after v found).parts ≡ v.parts
parts_after v None = refl
parts_after v (Some t) = refl

fits_after : (z : Size) (v : View) (found : Option ℕ) → v.ends < v.parts → Fits z v → Fits z (view_after v found)
fits_after z v None room fit = record { size_is = fit.size_is; ends = omega arith; idle = fit.idle }
fits_after z v (Some t) room fit = record { size_is = fit.size_is; ends = fit.ends; idle = λ h. absurd (omega arith) }

-- the word is at most the tickets and the seats
pub word_small : (z : Size) (s : St) (r : Dealt z s) → get_or s.words 0 0 ≤ z.count + 65
word_small z s r =
    let le = total-le (λ u. u.ends) (λ u. u.parts) s.views (λ id v e. (r.seated.fits id v e).ends) in
    let is = r.counted.word_is in
    let parts = r.seated.parts in
    let most = r.counted.at_most in
    let few = r.few_seats in
    omega arith

pub draws : (z : Size) (slots id : ℕ) (me : Me (Unit {0}) View) → me.1 ≡ [] → me.0.ends < me.0.parts
    → Allows (Dealt z) slots id me 0 (λ n. (n + 1) % 2 ^ 64) (TellsDraw (step slots 0 1 0 none) me)
draws z slots id (v, c) empty room s r _ at _ =
    let n : ℕ = get_or s.words 0 0 in
    let most = word_small z s r in
    let few = r.few_tickets in
    let wide = r.one_word in
    let fit = r.seated.fits id v at in
    let count : z.count ≡ v.size.count = ap (λ (k : Size). k.count) (sym (fit.size_is (omega arith))) in
    let found : Option ℕ = ticket_of n v.size.count in
    let given : Gives z v.size.count n s.views id v found
    = subst (λ (k : ℕ). Gives z k n s.views id v (ticket_of n k)) count (gives z n s.views id v at r.counted (dec_le z.count n)) in
    let up : ℕ = (n + 1) % 18446744073709551616 in
    let word : n + 1 ≡ get_or (set s.words 0 up) 0 0 = sym (get_or-set_same s.words 0 up 0 (omega arith) ∙ (omega arith)) in (
      view_after v found,
      keeps,
      tt,
      record {
        few_tickets = r.few_tickets;
        few_seats = r.few_seats;
        one_word = length-set s.words 0 up ∙ wide;
        seated = seated-set z s.views id v (view_after v found) at (parts_after v found) (fits_after z v found room fit) r.seated;
        counted = subst (λ (k : ℕ). Counted z k (set s.views id (view_after v found))) word given.0;
      },
      (refl, given.1),
    )

-- a new seat, with no part
pub enters : (z : Size) (slots : ℕ) → Enters (Dealt z) slots 0 (λ n w. TellsEntry (step slots 0 0 0 none) (record (idle z) { parts = z.seats }, []) n (w, []))
enters z slots s r _ _ =
    let w : View = idle z in
    let parts = total-snoc (λ u. u.parts) s.views w in (
      w,
      record {
        few_tickets = r.few_tickets;
        few_seats = r.few_seats;
        one_word = r.one_word;
        seated = seated_keeps z s.views (s.views ++ w ∷ []) (omega arith) (fit_snoc z s.views w r.seated.fits (idle_fits z z)) r.seated;
        counted = counted-snoc z (get_or s.words 0 0) s.views w refl refl r.counted;
      },
      refl,
    )

-- a seat with no ticket gives one of its parts to a new seat
pub deals : (z : Size) (id : ℕ) (v : View) → 0 < v.parts → v.tickets ≡ [] → v.ends ≡ 0 → Splits (Dealt z) id v (with_part_less v) (with_one_part v)
deals z id v some_part no_ticket no_end s r at =
    let left : View = with_part_less v in
    let right : View = with_one_part v in
    let changed : List View = set s.views id left in
    let fit = r.seated.fits id v at in
    let parts = total-set (λ u. u.parts) s.views id v left at in
    let parts' = total-snoc (λ u. u.parts) changed right in
    let left_fits : Fits z left = record { size_is = λ _. fit.size_is some_part; ends = omega arith; idle = λ _. no_ticket } in
    let right_fits : Fits z right = record { size_is = λ _. fit.size_is some_part; ends = omega arith; idle = λ _. refl } in
    record {
      few_tickets = r.few_tickets;
      few_seats = r.few_seats;
      one_word = r.one_word;
      seated = seated_keeps z s.views (changed ++ right ∷ []) (omega arith) (fit_snoc z changed right (fit_set z s.views id left r.seated.fits left_fits) right_fits) r.seated;
      counted = counted-snoc z (get_or s.words 0 0) changed right refl refl (counted-set z (get_or s.words 0 0) s.views id v left at refl refl r.counted);
    }

-- what one view has goes to another
counted-join : (z : Size) (word : ℕ) (views : List View) (id : ℕ) (v : View) (other : ℕ) (w : View) → get_elem? views id ≡ some v → get_elem? (set views id (joined v w)) other ≡ some w
    → Counted z word views → Counted z word (set (set views id (joined v w)) other nobody)
counted-join z word views id v other w at at' r =
    let changed : List View = set views id (joined v w) in
    counted_keeps z word views (set changed other nobody)
    (let t = total-set (λ u. u.ends) views id v (joined v w) at in
    let t' = total-set (λ u. u.ends) changed other w nobody at' in
    omega arith)
    (λ x.
    let t = total-set (λ u. times x u.tickets) views id v (joined v w) at in
    let t' = total-set (λ u. times x u.tickets) changed other w nobody at' in
    omega (arith, times-append x v.tickets w.tickets)) r

-- a seat takes in all that another knows
pub joins : (z : Size) (id : ℕ) (v : View) (other : ℕ) (w : View) → 0 < w.parts → Joins (Dealt z) id v other w (joined v w) nobody
joins z id v other w some_part s r at apart at' =
    let changed : List View = set s.views id (joined v w) in
    let theirs : Fits z w = r.seated.fits other w (sym (set_else s.views id other (joined v w) apart) ∙ at') in
    let mine : Fits z v = r.seated.fits id v at in
    let parts = total-set (λ u. u.parts) s.views id v (joined v w) at in
    let parts' = total-set (λ u. u.parts) changed other w nobody at' in
    let mine_ends = mine.ends in
    let their_ends = theirs.ends in
    let both_fit : Fits z (joined v w) = record { size_is = λ _. theirs.size_is some_part; ends = omega arith; idle = λ h. absurd (omega arith) } in
    record {
      few_tickets = r.few_tickets;
      few_seats = r.few_seats;
      one_word = r.one_word;
      seated = seated_keeps z s.views (set changed other nobody) (omega arith) (fit_set z changed other nobody (fit_set z s.views id (joined v w) r.seated.fits both_fit) (idle_fits z nobody.size)) r.seated;
      counted = counted-join z (get_or s.words 0 0) s.views id v other w at at' r.counted;
    }

-- who has every part sees all tickets
pub sees_all : (z : Size) (s : St) (r : Dealt z s) (id : ℕ) (v : View) → get_elem? s.views id ≡ some v → v.parts ≡ z.seats
    → ((x : ℕ) → times x v.tickets ≡ once_below x r.counted.drawn) × (0 < v.ends → r.counted.drawn ≡ z.count)
sees_all z s r id v at every =
    let whole : sum_by (λ u. u.parts) s.views ≡ v.parts = r.seated.parts ∙ sym every in
    let ends = total-at (λ u. u.ends) s.views id v at in (
      (λ x. sym (total_only (λ u. times x u.tickets) (λ u. u.parts) s.views id v at (λ i u t no_part. ap (times x) ((r.seated.fits i u t).idle no_part)) whole) ∙ r.counted.each_once x),
      λ h. r.counted.ended (omega arith),
    )

-- the start
pub opens : (z : Size) → z.count ≤ 2 ^ 24 → z.seats ≤ 65 → Dealt z (opening (0 ∷ []) [] (record (idle z) { parts = z.seats }))
opens z few_tickets few_seats =
    let all : View = record (idle z) { parts = z.seats } in
    record {
      few_tickets = few_tickets;
      few_seats = few_seats;
      one_word = refl;
      seated = record {
        parts = omega arith;
        fits = λ id v e. elim id as (λ i. get_elem? (all ∷ []) i ≡ some v → Fits z v) [
          | zero ↦ λ h. subst (Fits z) (some-injective all v h) (record { size_is = λ _. refl; ends = omega arith; idle = λ _. refl })
          | suc i ↦ λ h. absurd (some-ne-none v (sym h))
        ] e;
      };
      counted = record {
        drawn = 0;
        at_most = omega arith;
        word_is = refl;
        ended = λ h. absurd (omega arith);
        each_once = none_below_zero;
      };
    }
