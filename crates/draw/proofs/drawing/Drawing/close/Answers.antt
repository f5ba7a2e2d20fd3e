use Rattle.std.proofs.Common.{◌≡◌, ℕ, ◌+◌, ◌||◌, false, vec_len, ne_eqb, List, [], ◌∷◌, ◌++◌, ◌∙◌, sym, ap, subst, rules, arith, length, append_assoc, length-append}
use Rattle.std.proofs.lemmas.List.Folds.{Any-from_list_any, list_any-from_Any}
use Rattle.std.proofs.lemmas.List.Sums.{sum_by_push}
use Rattle.draw.specs.Tickets.{DrawingName, SeatState, Together, all_tickets}
use Rattle.draw.proofs.Keeps.{enters, joins}
use Rattle.draw.proofs.Seats.{weight, ends_of, any_ended, member, all_tickets-snoc, any_ended-snoc, settles, all_taken}
use Rattle.draw.proofs.drawing.Drawing.close.Goals as goal
use Rattle.draw.proofs.drawing.Drawing.close.Goals.{then-met_end, else-met_end, then-all_back, else-all_back}

pub load_new_seat-joined-requires : goal.load_new_seat-joined-requires
load_new_seat-joined-requires c = (search rules, enters _ _)

pub join_seat-requires : goal.join_seat-requires
join_seat-requires c =
    let one = c.back.invariant.1 in
    let of = member (λ (s : SeatState). s.of ≡ c.args.self) c.loop-back.yielded _ _ c.args.seats.items c.in-Some.back c.loop-back.invariant.0 c.in-Some.ensures.steps.0 c.requires in
    let table = ap (λ (s : SeatState). s.of.table) c.back.view_is ∙ (ap (λ (n : DrawingName). n.table) of ∙ sym (ap (λ (n : DrawingName). n.table) c.self.view_is)) in
    (search (rules, c.loop-back.invariant.1.table_is), table, search rules, search rules, joins _ _ _ _ _ (omega arith))

pub loop-back-preserved : goal.loop-back-preserved
loop-back-preserved c =
    let e = c.join_seat.ensures in
    let was = c.loop-back.invariant.1 in
    let ys = c.loop-back.yielded in
    let s = c.in-Some.back in
    let mine = c.back.invariant in
    let tickets = ap (λ (s : SeatState). s.tickets) c.back.view_is in
    let ended = ap (λ (s : SeatState). s.ended) c.back.view_is in (
      append_assoc ys (s ∷ []) _ ∙ (ap (λ (r : List SeatState). ys ++ r) (sym c.in-Some.ensures.steps.0) ∙ c.loop-back.invariant.0),
      record {
        table_is = e.0 ∙ was.table_is;
        no_slot = ap (λ m. m.1) e.2 ∙ was.no_slot;
        parts = ap (λ m. m.0.parts) e.2 ∙ (omega (arith, length-append ys (s ∷ []), was.parts, mine.1));
        tickets = ap (λ m. m.0.tickets) e.2 ∙ ((λ i. was.tickets i ++ tickets i) ∙ sym (all_tickets-snoc ys s));
        ends = ap (λ m. m.0.ends) e.2 ∙ ((λ i. was.ends i + (mine.2 ∙ ap weight ended) i) ∙ sym (sum_by_push (λ (u : SeatState). weight u.ended) ys s));
        met = elim c.if-met_end.branch [
          | then-met_end w ↦ w.met_end-is ∙ (w.if-met_end.true ∙ (ap (λ b. b || s.ended) (sym w.if-met_end.true ∙ was.met) ∙ sym (any_ended-snoc ys s)))
          | else-met_end w ↦ w.met_end-is ∙ (ended ∙ (ap (λ b. b || s.ended) (sym w.if-met_end.false ∙ was.met) ∙ sym (any_ended-snoc ys s)))
        ];
      },
    )

pub returns-clause-whole : goal.returns-clause-whole
returns-clause-whole c =
    let items = c.args.seats.items in
    let rest = c.loop-back.back-iterator.rest in
    let all = all_taken c.loop-back.yielded rest.items items c.loop-back.invariant.0 (sym rest.ok.0 ∙ c.in-None.ensures.steps.0) in
    let met = c.loop-back.invariant.1.met ∙ ap any_ended all in
    let seats = ap (λ (n : DrawingName). n.seats) c.self.view_is in
    elim c.if-all_back.branch [
      | then-all_back w ↦
          let back : vec_len c.args.seats ≡ c.args.self.seats = sym c.len.ensures ∙ (w.if-all_back.true ∙ seats) in
          (λ h. (back, Any-from_list_any (λ (s : SeatState). s.ended) items (sym met ∙ (sym w.result-is ∙ h))), λ h. w.result-is ∙ (met ∙ list_any-from_Any (λ (s : SeatState). s.ended) items h.1))
      | else-all_back w ↦
          let missing : c.if-all_back.result ≡ false = w.result-is ∙ ne_eqb _ _ w.if-all_back.false in
          (λ h. let both = sym h ∙ missing in absurd cc, λ h. absurd (w.if-all_back.false (c.len.ensures ∙ (h.0 ∙ sym seats))))
    ]

pub returns-clause-together : goal.returns-clause-together
returns-clause-together c = λ every.
    let seen = c.close_with-closed.ensures.values.2 in
    let was = c.loop-back.invariant.1 in
    let items = c.args.seats.items in
    let rest = c.loop-back.back-iterator.rest in
    let all = all_taken c.loop-back.yielded rest.items items c.loop-back.invariant.0 (sym rest.ok.0 ∙ c.in-None.ensures.steps.0) in
    let size = c.self.invariant.0 in
    let seats = ap (λ z. z.seats) size ∙ ap (λ (n : DrawingName). n.seats) c.self.view_is in
    let count = ap (λ z. z.count) size ∙ ap (λ (n : DrawingName). n.count) c.self.view_is in
    let parts = was.parts ∙ (ap length all ∙ (sym c.args.seats.ok.0 ∙ (every ∙ sym seats))) in
    subst (λ (n : ℕ). Together n items) count
    (settles c.self.inside.table.shared.key seen.0 seen.1.0 _ _ seen.1.1 parts items (was.tickets ∙ ap all_tickets all) (was.ends ∙ ap ends_of all))
