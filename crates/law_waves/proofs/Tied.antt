-- A walk over a body beside one over a body that declares its private variables itself, as locals.
use Rattle.std.specs.Prelude.{ℕ, true, false, not, ◌≡◌, List, Some}
use Rattle.std.proofs.Common.{sym, ap, ◌∙◌}
use Rattle.semantics.specs.Tree.{Variable, Stmt}
use Rattle.semantics.specs.Meaning.State.{State, overwritten}
use Rattle.semantics.specs.Meaning.Runs.{Effect}
use Rattle.semantics.specs.Meaning.Agrees.{is_among, names_only, visible_behind}
use Rattle.semantics.specs.Loops.Nest.{Loop, Vector}
use Rattle.law_nests.specs.Walks.{walk}
use Rattle.law_private.proofs.Own.{own_body, KnownInside}
use Rattle.law_private.proofs.Near.{Near, beside_first, beside_second, near_walk}
use Rattle.law_roles.proofs.Moved.{Moved, moved_walk}

-- private variables are locals in the second; but for these both are the same
pub record Tied (vars : List Variable) (t p : State) : Type 0 where
  pub middle : State
  pub moved : Moved vars t middle
  pub near : Near vars middle p

pub tied_cells : (vars : List Variable) (t p : State) → Tied vars t p → (x : Variable) (is : List ℕ) → is_among vars x ≡ false → t.cells x is ≡ p.cells x is
tied_cells vars t p h x is k = h.moved.cells x is k ∙ h.near.agrees.cells x is

pub tied_locals : (vars : List Variable) (t p : State) → Tied vars t p → (x : Variable) → is_among vars x ≡ false → t.locals x ≡ p.locals x
tied_locals vars t p h x k = h.moved.locals x k ∙ h.near.agrees.values x (ap not k)

module _ (vars : List Variable) (body : Stmt) (named : names_only (visible_behind body) body ≡ true) (known : KnownInside vars body) (loops : List Loop) where
  abbrev pub own : Stmt
  own = own_body vars body

  -- the walk of the second, beside that of the first
  pub record Forth (us : List Vector) (t p : State) (f : Effect) : Type 0 where
    pub effect : Effect
    pub ran : walk loops own us p ≡ Some effect
    pub text : f.text ≡ effect.text
    pub after : Tied vars (overwritten t f.writes) (overwritten p effect.writes)

  pub forth : (us : List Vector) (t p : State) (f : Effect) → Tied vars t p → walk loops body us t ≡ Some f → Forth us t p f
  forth us t p f tied ran =
      let both = moved_walk vars loops body us t tied.middle tied.moved in
      let found = beside_first (Near vars) tied.middle p (walk loops body us tied.middle) (walk loops own us p) f (near_walk vars body (visible_behind body) named known loops us tied.middle p tied.near) (sym both.same ∙ ran) in
      record {
        effect = found.effect;
        ran = found.is;
        text = found.text;
        after = record { middle = overwritten tied.middle f.writes; moved = both.left f ran; near = found.after };
      }

  -- and the first beside the second
  pub record Back (us : List Vector) (t p : State) (g : Effect) : Type 0 where
    pub effect : Effect
    pub ran : walk loops body us t ≡ Some effect
    pub text : effect.text ≡ g.text
    pub after : Tied vars (overwritten t effect.writes) (overwritten p g.writes)

  pub back : (us : List Vector) (t p : State) (g : Effect) → Tied vars t p → walk loops own us p ≡ Some g → Back us t p g
  back us t p g tied ran =
      let both = moved_walk vars loops body us t tied.middle tied.moved in
      let found = beside_second (Near vars) tied.middle p (walk loops body us tied.middle) (walk loops own us p) g (near_walk vars body (visible_behind body) named known loops us tied.middle p tied.near) ran in
      let is : walk loops body us t ≡ Some found.effect = both.same ∙ found.is in
      record {
        effect = found.effect;
        ran = is;
        text = sym found.text;
        after = record { middle = overwritten tied.middle found.effect.writes; moved = both.left found.effect is; near = found.after };
      }
