-- Two runs that do the same.
use Rattle.std.specs.Prelude.{Bool, true, false, ◌≡◌, List, [], ◌∷◌, ◌++◌, Option, Some, None}
use Rattle.std.proofs.Common.{refl, sym, ap, ◌∙◌, subst}
use Rattle.std.proofs.lemmas.Option.{same_Some, none-some}
use Rattle.std.specs.List.{AllByRecursion as Each}
use Rattle.semantics.specs.Meaning.State.{State, Write, written, overwritten}
use Rattle.semantics.specs.Meaning.Value.{by_test, map_option}
use Rattle.semantics.specs.Meaning.Runs.{Effect, nothing, one_write, joined, then_from}
use Rattle.law_commute.proofs.Lists.{each_join}

pub overwritten-append : (s : State) (ws vs : List Write) → overwritten s (ws ++ vs) ≡ overwritten (overwritten s ws) vs
overwritten-append s [] vs = refl
overwritten-append s (w ∷ ws) vs = overwritten-append (written s w) ws vs

module _ (Own : Write → Type 0) where
  -- an effect from both states: its writes, and what holds of the states behind it
  pub record Left (Q : State → State → Type 0) (r r' : State) (e : Effect) : Type 0 where
    pub own : Each Own e.writes
    pub after : Q (overwritten r e.writes) (overwritten r' e.writes)

  -- the same effect from both, or none
  pub record Matched (Q : State → State → Type 0) (r r' : State) (o o' : Option Effect) : Type 0 where
    pub same : o ≡ o'
    pub left : (e : Effect) → o ≡ Some e → Left Q r r' e

  module _ (Q : State → State → Type 0) (r r' : State) where
    pub matched_none : Matched Q r r' None None
    matched_none = record { same = refl; left = λ e h. absurd (none-some e h) }

    pub matched_some : (e : Effect) → Each Own e.writes → Q (overwritten r e.writes) (overwritten r' e.writes) → Matched Q r r' (Some e) (Some e)
    matched_some e own q = record { same = refl; left = λ f h. subst (Left Q r r') (same_Some e f h) (record { own = own; after = q }) }

    pub matched_nothing : Q r r' → Matched Q r r' (Some nothing) (Some nothing)
    matched_nothing q = matched_some nothing tt q

    pub matched_write : (w : Write) → Own w → Q (written r w) (written r' w) → Matched Q r r' (Some (one_write w)) (Some (one_write w))
    matched_write w own q = matched_some (one_write w) (own, tt) q

    pub matched_like : {o p o' p' : Option Effect} → p ≡ o → p' ≡ o' → Matched Q r r' o o' → Matched Q r r' p p'
    matched_like e e' h = record { same = e ∙ h.same ∙ sym e'; left = λ f k. h.left f (sym e ∙ k) }

    pub matched_test : (t t' : Option Bool) (o p o' p' : Option Effect) → t ≡ t' → (t ≡ Some true → Matched Q r r' o o') → (t ≡ Some false → Matched Q r r' p p') → Matched Q r r' (by_test t o p) (by_test t' o' p')
    matched_test t t' o p o' p' e if_true if_false = at t refl
      where
        middle : (u : Option Bool) → t ≡ u → Matched Q r r' (by_test u o p) (by_test u o' p')
        middle None h = matched_none
        middle (Some true) h = if_true h
        middle (Some false) h = if_false h

        at : (u : Option Bool) → t ≡ u → Matched Q r r' (by_test t o p) (by_test t' o' p')
        at u h = matched_like (ap (λ b. by_test b o p) h) (ap (λ b. by_test b o' p') (sym e ∙ h)) (middle u h)

    pub matched_weaker : (R : State → State → Type 0) → ((s s' : State) → Q s s' → R s s') → (o o' : Option Effect) → Matched Q r r' o o' → Matched R r r' o o'
    matched_weaker R h o o' k = record { same = k.same; left = λ e i. record { own = (k.left e i).own; after = h (overwritten r e.writes) (overwritten r' e.writes) (k.left e i).after } }

  -- one and then the other
  joined_left : (R : State → State → Type 0) (r r' : State) (e : Effect) (o : Option Effect) → Each Own e.writes → ((f : Effect) → o ≡ Some f → Left R (overwritten r e.writes) (overwritten r' e.writes) f)
      → (g : Effect) → map_option (joined e) o ≡ Some g → Left R r r' g
  joined_left R r r' e None own h g k = absurd (none-some g k)
  joined_left R r r' e (Some f) own h g k =
      let two = h f refl in
      subst (Left R r r') (same_Some (joined e f) g k)
      (record {
        own = each_join Own e.writes f.writes own two.own;
        after =
            subst (λ t. R (overwritten r (e.writes ++ f.writes)) t) (sym (overwritten-append r' e.writes f.writes))
            (subst (λ t. R t (overwritten (overwritten r' e.writes) f.writes)) (sym (overwritten-append r e.writes f.writes)) two.after);
      })

  pub matched_then : (Q R : State → State → Type 0) (r r' : State) (o o' : Option Effect) (next next' : State → Option Effect) → Matched Q r r' o o'
      → ((t t' : State) → Q t t' → Matched R t t' (next t) (next' t')) → Matched R r r' (then_from r o next) (then_from r' o' next')
  matched_then Q R r r' o o' next next' one two = matched_like R r r' refl (ap (λ p. then_from r' p next') (sym one.same)) (at o one.left)
    where
      at : (p : Option Effect) → ((e : Effect) → p ≡ Some e → Left Q r r' e) → Matched R r r' (then_from r p next) (then_from r' p next')
      at None left = matched_none R r r'
      at (Some e) left =
          let was = left e refl in
          let more = two (overwritten r e.writes) (overwritten r' e.writes) was.after in
          record {
            same = ap (map_option (joined e)) more.same;
            left = joined_left R r r' e (next (overwritten r e.writes)) was.own more.left;
          }
