-- Each scalar that the body of an accepted text assigns has its place: at file scope a cell, and a local a register.
use Rattle.std.specs.Prelude.{ℕ, zero, suc, Bool, true, false, ◌≡◌, ◌+◌, ◌<◌, ◌≤◌, ◌^◌, nat_lt, List, [], ◌∷◌, length, Option, Some, None, slice_get, option_map}
use Rattle.std.proofs.Common.{refl, sym, ap, ◌∙◌, arith}
use Rattle.std.proofs.lemmas.Bool.{ltb-true, lt-ltb}
use Rattle.std.proofs.lemmas.List.{length-append}
use Rattle.std.proofs.lemmas.List.Concat.{flat_map-cons}
use Rattle.std.proofs.lemmas.Option.{slice_get-map, same_Some, none-some}
use Rattle.semantics.specs.Tree.{Variable, Declaration, Block, Kernel}
use Rattle.semantics.specs.Source.Scope.{Entity, AVariable, AConstant}
use Rattle.semantics.specs.Source.Statements.{block}
use Rattle.semantics.specs.Meaning.Agrees.{is_among, declared_among, names_items}
use Rattle.semantics.specs.Meaning.Definite.{no_privates, definite_items, known_at_start}
use Rattle.law_lines.proofs.Kept.{kept_lines_are_read}
use Rattle.nest_loop.proofs.Visible.{each_weaker}
use Rattle.nest.specs.Nests as nests
use Rattle.nest.specs.Nests.{StaysInside}
use Rattle.flow.specs.Roles.{privates_by}
use Rattle.law_commute.specs.Targets.{targets_among}
use Rattle.law_runs.proofs.Points.{IsBelow}
use Rattle.law_runs.proofs.Nested.{decls_below, some_there}
use Rattle.law_independence.proofs.Naming.{IsNamed, stmt_named}
use Rattle.law_independence.proofs.RoleNests.{scalar_assigned}
use Rattle.law_independence.proofs.Starts.{all_start}
use Rattle.law_scopes.proofs.Named.{target_named}
use Rattle.store.specs.Kept.{Kept}
use Rattle.store.specs.Flat.{AreFilled, values_of}
use Rattle.seqrun.specs.Ran.{lengths_of}
use Rattle.lower_code.specs.declared.laid.Laid.{Laid}
use Rattle.lower_code.specs.Layout.{IsLaid, shapes_of, shapes_in, first_of, spot_in, spot}
use Rattle.outline.specs.Accepted.{HasPlace}
use Rattle.deptest.specs.Accepted.{HasPassed, data_passed}
use Rattle.deptest.proofs.Locals.{plainly_definite}

-- ---- cells

-- the elements of a variable begin within those of all
first_within : (ks : List Kept) (x : ℕ) → AreFilled ks → first_of (lengths_of ks) x ≤ length (values_of ks)
first_within [] x all = omega arith
first_within (k ∷ ks) zero all = omega arith
first_within (k ∷ ks) (suc x) (here, all) =
    let rest = first_within ks x all in
    let count : length (values_of (k ∷ ks)) ≡ length k.values + length (values_of ks) = ap (λ (vs : List ℕ). length vs) (flat_map-cons (λ (j : Kept). j.values) k ks) ∙ length-append k.values (values_of ks) in
    omega arith

-- what a variable of these declarations that has no lengths has in a layout for them
no_lengths : (layout : List Laid) (ds : List Declaration) (x : ℕ) (own : Laid) → shapes_of layout ≡ shapes_in ds → slice_get layout x ≡ Some own → nests.lengths_of (slice_get ds x) ≡ [] → slice_get (shapes_of layout) x ≡ Some []
no_lengths layout ds x own shapes at none = there ∙ ap Some (go (slice_get ds x) declared none)
  where
    there : slice_get (shapes_of layout) x ≡ Some own.lengths.items
    there = slice_get-map (λ (l : Laid). l.lengths.items) layout x ∙ ap (option_map (λ (l : Laid). l.lengths.items)) at

    declared : option_map (λ (d : Declaration). d.lengths) (slice_get ds x) ≡ Some own.lengths.items
    declared = sym (slice_get-map (λ (d : Declaration). d.lengths) ds x) ∙ ap (λ s. slice_get s x) (sym shapes) ∙ there

    go : (o : Option Declaration) → option_map (λ (d : Declaration). d.lengths) o ≡ Some own.lengths.items → nests.lengths_of o ≡ [] → own.lengths.items ≡ []
    go None e h = absurd (none-some own.lengths.items e)
    go (Some d) e h = sym (same_Some d.lengths own.lengths.items e) ∙ h

-- a scalar has the one cell that the layout tells
cell_told : (layout : List Laid) (x : ℕ) (own : Laid) → IsLaid layout → slice_get layout x ≡ Some own → slice_get (shapes_of layout) x ≡ Some [] → first_of (shapes_of layout) x < 2 ^ 64 → spot (shapes_of layout) x [] ≡ Some own.first
cell_told layout x own laid at none less =
    let told = laid x own at in
    let first : first_of (shapes_of layout) x + 0 ≡ own.first = omega arith in
    ap (λ o. spot_in o (first_of (shapes_of layout) x) []) none ∙ ap Some first

-- ---- names

named : (n : ℕ) (it : Entity) → IsBelow n it → IsNamed (λ x. nat_lt x n) it
named n (AVariable x m) h = lt-ltb x n h
named n (AConstant m) h = tt

module _ (text : List ℕ) (k : Kernel) (passed : HasPassed text k) where
  -- the body names what stands at file scope, and what it declares itself
  names_inside : names_items (known_at_start k.variables) k.body ≡ true
  names_inside =
      let ds = k.variables in
      let n = length ds in
      let known = known_at_start ds in
      let read = (kept_lines_are_read text k passed.reads).reads in
      let left = some_there (definite_items no_privates [] k.body known) (plainly_definite (privates_by (data_passed passed)) k passed.definite) in
      let visible = decls_below n read.declared (omega arith) tt in
      stmt_named (StaysInside ds) (block (let small : 0 < 64 = omega arith in small) read.items) known [] (each_weaker (IsBelow n) (IsNamed known) (named n) read.scope visible) (λ y c. absurd cc) passed.in_range
      (all_start read.items known left.0 visible (λ y q. ltb-true y n q) left.1)

  -- so what it assigns and does not declare stands there
  assigned_outside : (x : Variable) → is_among (targets_among k.body) x ≡ true → is_among (declared_among k.body) x ≡ false → x < length k.variables
  assigned_outside x t e = ltb-true x (length k.variables) (target_named x (Block k.body) (known_at_start k.variables) names_inside e t)

  -- the places are there where the cells are, and where there is a register for each local
  pub placed : (layout : List Laid) (registers : ℕ) (ks : List Kept) → IsLaid layout → shapes_of layout ≡ shapes_in k.variables → shapes_of layout ≡ lengths_of ks → AreFilled ks → length (values_of ks) < 2 ^ 64
      → length layout ≡ length k.variables → ((x : Variable) → is_among (declared_among k.body) x ≡ true → x < registers) → (x : Variable) → is_among (targets_among k.body) x ≡ true → HasPlace layout registers x
  placed layout registers ks laid shapes same filled room count below x t = record {
    cell = λ own at. cell_told layout x own laid at (no_lengths layout k.variables x own shapes at (scalar_assigned k.variables x [] (Block k.body) passed.in_range t)) first;
    register = λ le. local (is_among (declared_among k.body) x) refl le;
  }
    where
      first : first_of (shapes_of layout) x < 2 ^ 64
      first =
          let within = first_within ks x filled in
          let at : first_of (shapes_of layout) x ≡ first_of (lengths_of ks) x = ap (λ s. first_of s x) same in
          omega arith

      local : (b : Bool) → is_among (declared_among k.body) x ≡ b → length layout ≤ x → x < registers
      local true e le = below x e
      local false e le = let less = assigned_outside x t e in absurd (omega arith)
