-- What is visible behind the declarations, and the law of nested kernels.
use Rattle.std.specs.Prelude.{ℕ, suc, true, ◌≡◌, ◌<◌, ◌≤◌, ◌+◌, ℤ, pos, List, [], ◌∷◌, length, Option, Some, None, is_some}
use Rattle.std.proofs.Common.{refl, sym, inl, ap, ◌∙◌, arith}
use Rattle.std.proofs.lemmas.Bool.{ltb-true}
use Rattle.std.proofs.lemmas.Int.{ints}
use Rattle.semantics.specs.Tree.{Name, Variable, Declaration}
use Rattle.semantics.specs.Source.Token.{Token}
use Rattle.semantics.specs.Source.Scope.{Scope, Entity, AVariable, AConstant, with_constants}
use Rattle.semantics.specs.Source.Grammar.{ReadsLengths, no_lengths, dimension, ReadsConstants, only, further, ReadsDecls, no_decls, enum, object}
use Rattle.semantics.specs.Meaning.State.{State}
use Rattle.semantics.specs.Meaning.Runs.{Effect, run_items}
use Rattle.semantics.specs.Meaning.Definite.{DefinitelyAssigned, no_privates, definite_items, known_at_start}
use Rattle.law_lines.proofs.Kept.{kept_lines_are_read}
use Rattle.law_runs.specs.Total.{NestedKernelsRun}
use Rattle.nest_loop.specs.Constants.{Each, IsSmall}
use Rattle.nest_loop.proofs.Visible.{each_weaker, constant_there}
use Rattle.law_runs.proofs.There.{There}
use Rattle.law_runs.proofs.Values.{AreShort, HaveShort}
use Rattle.law_runs.proofs.Points.{IsBelow, below_more, IsPoint, CanBeSet}
use Rattle.law_runs.proofs.Operands.{all_plain_reduce, all_plain_operands}
use Rattle.law_runs.proofs.StatementsRun.{items_go}

-- enum constants are small
constants_small : {scope : Scope} {ts : List Token} {cs : List (Name × ℕ)} (s : State) → ReadsConstants scope ts cs → Each IsSmall scope → Each IsSmall (with_constants cs scope)
constants_small s (only {n = n} free r e) h = ((constant_there s n h r e).1, h)
constants_small s (further {n = n} free r e q) h = constants_small s q ((constant_there s n h r e).1, h)

decls_small : {scope scope' : Scope} {next : ℕ} {ts : List Token} {cs : List (Name × ℕ)} {ds : List Declaration} (s : State) → ReadsDecls scope next ts cs ds scope' → Each IsSmall scope → Each IsSmall scope'
decls_small s no_decls h = h
decls_small s (enum c r) h = decls_small s r (constants_small s c h)
decls_small s (object free few ls r) h = decls_small s r (tt, h)

-- lengths are short
lengths_short : {scope : Scope} {ts : List Token} {ns : List ℕ} (s : State) → ReadsLengths scope ts ns → Each IsSmall scope → AreShort ns
lengths_short s no_lengths h = tt
lengths_short s (dimension {n = n} r e ls) h = let less = (constant_there s (suc n) h r e).1 in (omega arith, lengths_short s ls h)

decls_short : {scope scope' : Scope} {next : ℕ} {ts : List Token} {cs : List (Name × ℕ)} {ds : List Declaration} (s : State) → ReadsDecls scope next ts cs ds scope' → Each IsSmall scope → HaveShort ds
decls_short s no_decls h = tt
decls_short s (enum c r) h = decls_short s r (constants_small s c h)
decls_short s (object free few ls r) h = (lengths_short s ls h, decls_short s r (tt, h))

-- the names of declarations stand for variables below the next number
constants_below : (m : ℕ) (cs : List (Name × ℕ)) (scope : Scope) → Each (IsBelow m) scope → Each (IsBelow m) (with_constants cs scope)
constants_below m [] scope h = h
constants_below m (c ∷ cs) scope h = constants_below m cs ((c.0, AConstant c.1) ∷ scope) (tt, h)

pub decls_below : {scope scope' : Scope} {next : ℕ} {ts : List Token} {cs : List (Name × ℕ)} {ds : List Declaration} (m : ℕ) → ReadsDecls scope next ts cs ds scope' → next + length ds ≤ m → Each (IsBelow next) scope → Each (IsBelow m) scope'
decls_below {scope = scope} {next = next} m no_decls le h = each_weaker (IsBelow next) (IsBelow m) (below_more next m (omega arith)) scope h
decls_below {scope = scope} {next = next} m (enum {cs = cs} c r) le h = decls_below m r le (constants_below next cs scope h)
decls_below {scope = scope} {next = next} m (object free few ls r) le h =
    let less : next < suc next = omega arith in
    decls_below m r (omega arith) (less, each_weaker (IsBelow next) (IsBelow (suc next)) (below_more next (suc next) (omega arith)) scope h)

settable : (ds : List Declaration) (s : State) (e : Entity) → IsBelow (length ds) e → CanBeSet ds s e
settable ds s (AVariable x n) h = inl h
settable ds s (AConstant n) h = tt

pub some_there : (o : Option DefinitelyAssigned) → is_some o ≡ true → There o
some_there None e = absurd cc
some_there (Some k) e = (k, refl)

there_some : (o : Option Effect) (e : Effect) → o ≡ Some e → is_some o ≡ true
there_some o e is = ap is_some is

-- outside all loops there is no variable of a loop
no_values : Variable → ℤ
no_values x = pos 0

-- a nested kernel runs
pub nested_kernels_run : NestedKernelsRun
unfolding no_values
nested_kernels_run text k s reads in_range definite state outside =
    let ds = k.variables in
    let read = (kept_lines_are_read text k reads).reads in
    let left = some_there (definite_items no_privates [] k.body (known_at_start ds)) definite in
    let below = decls_below (length ds) read.declared (omega arith) tt in
    let point : IsPoint ds [] no_values read.scope (length ds) (known_at_start ds) s = record {
      small = decls_small s read.declared tt;
      usable = each_weaker (IsBelow (length ds)) (CanBeSet ds s) (settable ds s) read.scope below;
      room = omega arith;
      good = record { cells = state.there; outside = λ x lt. outside x };
      below = record { visible = below; known = λ y e. ltb-true y (length ds) e; counters = λ y e. absurd cc };
      here = record {
        known = λ x le e. let less = ltb-true x (length ds) e in absurd (omega arith);
        turn = record { inside = λ x. record { above = omega (arith, ints); below = omega (arith, ints) }; counters = λ y e. absurd cc };
      };
    } in
    let ran = items_go ds (decls_short s read.declared tt) [] [] no_values read.items (known_at_start ds) left.0 s in_range (λ y e. absurd cc) (all_plain_reduce k.body) point left.1 in
    there_some (run_items k.body s) ran.effect (ap (λ items. run_items items s) (sym (all_plain_operands k.body)) ∙ ran.is)
