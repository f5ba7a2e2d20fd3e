-- What a first pass runs of each iteration, beside the whole of it.
use Rattle.std.specs.Prelude.{ℕ, true, false, not, ◌≡◌, ◌==◌, ◌&&◌, ◌||◌, List, [], ◌∷◌, Some, Contains}
use Rattle.std.proofs.Common.{refl, sym, ap, ◌∙◌, subst}
use Rattle.std.proofs.lemmas.Bool.{eq-eqb, or_left, or_parts}
use Rattle.std.proofs.lemmas.List.Folds.{list_any-append}
use Rattle.std.proofs.lemmas.List.Elements.{Contains-append_left}
use Rattle.semantics.specs.Tree.{Variable, Stmt, Block, Items}
use Rattle.semantics.specs.Meaning.State.{State, Holds, overwritten}
use Rattle.semantics.specs.Meaning.Runs.{Effect, run, run_items}
use Rattle.semantics.specs.Meaning.Definite.{no_privates}
use Rattle.semantics.specs.Meaning.Agrees.{is_among, declared_in, declared_among, names_only, visible_behind}
use Rattle.semantics.specs.Loops.Access.{Access, accesses, items_accesses}
use Rattle.semantics.specs.Loops.Operator.{ReduceOp}
use Rattle.law_commute.specs.Steady.{IsSteady}
use Rattle.law_commute.specs.Targets.{KeepsApart, AssignsFirst}
use Rattle.law_commute.proofs.Matched.{overwritten-append}
use Rattle.law_nests.proofs.Nested.{parts_of}
use Rattle.law_private.proofs.Own.{others, DeclaresNone}
use Rattle.law_roles.specs.Updates.{reduces}
use Rattle.law_scans.specs.Phases.{joined_items}
use Rattle.law_scans.proofs.Phased.{runs_joined, declared_joined, accesses_joined, names_front, steady_front, definite_front}
use Rattle.law_private.proofs.Chunks.{not_true}
use Rattle.law_scans.proofs.Steps.{number_left}

-- a part of the body that leaves in the scan variable what the body leaves there
pub record IsInput (x : Variable) (op : ReduceOp) (ps : List Variable) (body input : Stmt) : Type 0 where
  pub declared : (y : Variable) → is_among (declared_in input) y ≡ true → is_among (declared_in body) y ≡ true
  pub names : names_only (visible_behind body) input ≡ true
  pub steady : IsSteady (λ y. visible_behind body y && not (is_among (x ∷ ps) y)) input
  pub first : AssignsFirst ps input
  pub accesses : (a : Access) → Contains (accesses [] input) a → Contains (accesses [] body) a
  pub updates : reduces ((x, op) ∷ []) input ≡ true
  pub runs : (q : State) (v : ℕ) (e : Effect) → q.locals x ≡ Holds v → run body q ≡ Some e
      → (f : Effect) × (run input q ≡ Some f) × ((overwritten q f.writes).locals x ≡ (overwritten q e.writes).locals x)

module _ (x : Variable) (op : ReduceOp) (ps : List Variable) (front back : Items) (keeps : KeepsApart (x ∷ ps) (Block (joined_items front back))) (none : DeclaresNone (x ∷ ps) (Block (joined_items front back)))
    (first : AssignsFirst ps (Block (joined_items front back))) (apart : is_among ps x ≡ false) where
  abbrev body : Stmt
  body = Block (joined_items front back)

  -- the phase in front, where the one behind leaves the scan variable as it is
  pub front_input : reduces ((x, op) ∷ []) (Block front) ≡ true → ((n : ℕ) (s : State) (e : Effect) → run_items back s ≡ Some e → s.locals x ≡ Holds n → (overwritten s e.writes).locals x ≡ Holds n)
      → IsInput x op ps body (Block front)
  front_input updates stays = record {
    declared = λ y h. ap (λ ds. is_among ds y) (declared_joined front back) ∙ list_any-append (λ z. z == y) (declared_among front) (declared_among back) ∙ or_left (is_among (declared_among front) y) (is_among (declared_among back) y) h;
    names = names_front front back (visible_behind body) keeps.names;
    steady = steady_front front back (λ y. visible_behind body y && not (is_among (x ∷ ps) y)) keeps.steady;
    first = definite_front no_privates [] front back (others ps) first;
    accesses = λ a h. subst (λ (found : List Access). Contains found a) (sym (accesses_joined front back)) (Contains-append_left (items_accesses [] front) (items_accesses [] back) a h);
    updates = updates;
    runs = runs;
  }
    where
      seen : visible_behind (Block front) x ≡ true
      seen = ap not (or_parts (is_among (declared_among front) x) (is_among (declared_among back) x) (sym (list_any-append (λ z. z == x) (declared_among front) (declared_among back)) ∙ ap (λ ds. is_among ds x) (sym (declared_joined front back)) ∙ not_true (is_among (declared_in body) x) (none x (ap (λ b. b || is_among ps x) (eq-eqb x x refl))))).0

      runs : (q : State) (v : ℕ) (e : Effect) → q.locals x ≡ Holds v → run body q ≡ Some e
          → (f : Effect) × (run (Block front) q ≡ Some f) × ((overwritten q f.writes).locals x ≡ (overwritten q e.writes).locals x)
      runs q v e h is =
          let p = parts_of q (run_items front q) (run_items back) e (sym (runs_joined front back q) ∙ is) in
          let s : State = overwritten q p.one.writes in
          let n = number_left x (Block front) q v p.one seen h p.one_is in (
            p.one,
            p.one_is,
            n.1 ∙ sym (stays n.0 s p.two p.two_is n.1)
                ∙ sym (ap (λ (t : State). t.locals x) (overwritten-append q p.one.writes p.two.writes)) ∙ ap (λ (g : Effect). (overwritten q g.writes).locals x) p.is,
          )
