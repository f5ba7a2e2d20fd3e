-- Iterations that run one after another in one memory.
use Rattle.std.specs.Prelude.{ℕ, zero, suc, Bool, true, false, ◌≡◌, ◌==◌, ◌||◌, not, List, [], ◌∷◌, ◌++◌, length, Some}
use Rattle.std.specs.List.{AllByRecursion as Each}
use Rattle.std.proofs.Common.{refl, sym, ap, ◌∙◌, subst, cond, arith}
use Rattle.std.proofs.lemmas.Bool.{eq-eqb, eqb-true}
use Rattle.std.proofs.lemmas.List.{append-nil}
use Rattle.std.proofs.lemmas.Option.{same_Some, none-some}
use Rattle.semantics.specs.Tree.{Variable, Stmt, For, Block, no_items, stmt}
use Rattle.semantics.specs.Meaning.State.{State, Holds, overwritten}
use Rattle.semantics.specs.Meaning.Value.{map_option}
use Rattle.semantics.specs.Meaning.Runs.{Effect, nothing, joined, then_from, run}
use Rattle.semantics.specs.Meaning.Agrees.{declared_in, is_among, visible_behind}
use Rattle.semantics.specs.Loops.Nest.{Loop, Vector, as_loop, nest_of, at_value, at_vector}
use Rattle.semantics.specs.Loops.Piece.{run_iterations}
use Rattle.law_commute.specs.Commuting.{KeepsToItself, InnerLoopsTurn}
use Rattle.law_commute.proofs.Framed.{true_not_false}
use Rattle.law_commute.proofs.Lists.{each_same, contains_among}
use Rattle.law_commute.proofs.Matched.{overwritten-append}
use Rattle.law_commute.proofs.Iterations.{cells_at, outside_at}
use Rattle.law_nests.specs.Walks.{entered, enters, walk, WalksLeaveTheSame}
use Rattle.law_nests.proofs.Nested.{Like, IsRound, Beside, nest_goes, parts_of}
use Rattle.law_nests.proofs.Joined.{first_loop, nest_declares, visible_more}

-- one of the loops has this variable
abbrev is_of : List Loop → Variable → Bool
is_of [] y = false
is_of (l ∷ ls) y = (l.variable == y) || is_of ls y

or_left : (a b : Bool) → a ≡ true → (a || b) ≡ true
or_left true b e = refl
or_left false b e = absurd (true_not_false true refl (sym e))

or_right : (a b : Bool) → b ≡ true → (a || b) ≡ true
or_right true b e = refl
or_right false b e = e

-- a loop declares its variable, and besides what stands in it
pub loop_own : (s : Stmt) (l : Loop) (b : Stmt) → as_loop s ≡ Some (l, b) → (y : Variable) → is_among (declared_in s) y ≡ ((l.variable == y) || is_among (declared_in b) y)
loop_own (For x name start test step inner) l b h y =
    ap (λ (p : Loop × Stmt). (p.0.variable == y) || is_among (declared_in p.1) y) (same_Some (record { variable = x; start = start; test = test; step = step }, inner) (l, b) h)
loop_own (Block (stmt a no_items)) l b h y = ap (λ (ds : List Variable). is_among ds y) (append-nil (declared_in a)) ∙ loop_own a l b h y
loop_own _ l b h y = absurd (none-some (l, b) h)

-- a nest declares its loops' variables, and besides what its body declares
nest_own : (n : ℕ) (s : Stmt) (loops : List Loop) (body : Stmt) → nest_of n s ≡ Some (loops, body) → (y : Variable) → is_among (declared_in s) y ≡ (is_of loops y || is_among (declared_in body) y)
nest_own zero s loops body h y =
    let same : ([], s) ≡ (loops, body) = same_Some ([], s) (loops, body) h in
    ap (λ (p : List Loop × Stmt). is_of p.0 y || is_among (declared_in p.1) y) same
nest_own (suc n) s loops body h y =
    let first = first_loop n s loops body h in
    loop_own s first.loop first.inside first.is y
    ∙ ap (λ b. (first.loop.variable == y) || b) (nest_own n first.inside first.loops body first.rest y)
    ∙ regroup (first.loop.variable == y) (is_of first.loops y) (is_among (declared_in body) y)
    ∙ ap (λ (ls : List Loop). is_of ls y || is_among (declared_in body) y) first.all_are
  where
    regroup : (a b c : Bool) → (a || (b || c)) ≡ ((a || b) || c)
    regroup true b c = refl
    regroup false b c = refl

-- a variable that is none of the loops' keeps its value
other_at : (ls : List Loop) (u : Vector) (s : State) (y : Variable) → is_of ls y ≡ false → (at_vector ls u s).locals y ≡ s.locals y
other_at [] u s y h = refl
other_at (l ∷ ls) [] s y h = refl
other_at (l ∷ ls) (v ∷ vs) s y h =
    other_at ls vs (at_value s l.variable v) y (not_later (l.variable == y) (is_of ls y) h)
    ∙ ap (λ c. cond c (Holds v) (s.locals y)) (flip (l.variable == y) refl (not_first (l.variable == y) (is_of ls y) h))
  where
    not_first : (a b : Bool) → (a || b) ≡ false → a ≡ false
    not_first true b e = e
    not_first false b e = refl

    not_later : (a b : Bool) → (a || b) ≡ false → b ≡ false
    not_later true b e = absurd (true_not_false true refl e)
    not_later false b e = e

    flip : (a : Bool) → (l.variable == y) ≡ a → a ≡ false → (y == l.variable) ≡ false
    flip a e k = at (y == l.variable) refl
      where
        at : (c : Bool) → (y == l.variable) ≡ c → (y == l.variable) ≡ false
        at true j = absurd (true_not_false (l.variable == y) (eq-eqb l.variable y (sym (eqb-true y l.variable j))) (e ∙ k))
        at false j = j

-- all of the loops' variables are set, so that the others alone are to be the same
same_at_all : (ls : List Loop) (u : Vector) (s t : State) (y : Variable) → length u ≡ length ls → (is_of ls y ≡ false → s.locals y ≡ t.locals y) → (at_vector ls u s).locals y ≡ (at_vector ls u t).locals y
same_at_all [] u s t y long same = same refl
same_at_all (l ∷ ls) [] s t y long same = absurd (omega (arith, long))
same_at_all (l ∷ ls) (v ∷ vs) s t y long same =
    same_at_all ls vs (at_value s l.variable v) (at_value t l.variable v) y (omega (arith, long)) (λ h. at (y == l.variable) refl h)
  where
    at : (c : Bool) → (y == l.variable) ≡ c → is_of ls y ≡ false → cond (y == l.variable) (Holds v) (s.locals y) ≡ cond (y == l.variable) (Holds v) (t.locals y)
    at true e h = ap (λ c. cond c (Holds v) (s.locals y)) e ∙ sym (ap (λ c. cond c (Holds v) (t.locals y)) e)
    at false e h =
        ap (λ c. cond c (Holds v) (s.locals y)) e ∙ same (ap (λ c. c || is_of ls y) (other (l.variable == y) refl) ∙ h) ∙ sym (ap (λ c. cond c (Holds v) (t.locals y)) e)
      where
        other : (c : Bool) → (l.variable == y) ≡ c → (l.variable == y) ≡ false
        other true j = absurd (true_not_false (y == l.variable) (eq-eqb y l.variable (sym (eqb-true l.variable y j))) e)
        other false j = j

entered_is : (ls : List Loop) (u : Vector) (s : State) → overwritten s (entered ls u) ≡ at_vector ls u s
entered_is [] u s = refl
entered_is (l ∷ ls) [] s = refl
entered_is (l ∷ ls) (v ∷ vs) s = entered_is ls vs (at_value s l.variable v)

module _ (s : Stmt) (outer : State) (there : Like s outer outer) (n : ℕ) (loops : List Loop) (body : Stmt) (is : nest_of n s ≡ Some (loops, body)) (keeps : KeepsToItself body) where
  abbrev K : Variable → Bool
  K = visible_behind body

  abbrev Set : Vector → State → State
  Set u t = at_vector loops u t

  -- what is visible to the body and no loop's variable is visible behind the nest
  visible_back : (y : Variable) → K y ≡ true → is_of loops y ≡ false → visible_behind s y ≡ true
  visible_back y h none =
      ap not (nest_own n s loops body is y ∙ ap (λ b. b || is_among (declared_in body) y) none) ∙ h

  -- what is visible behind the nest is no loop's variable
  none_of : (y : Variable) → visible_behind s y ≡ true → is_of loops y ≡ false
  none_of y h = at (is_of loops y) refl
    where
      at : (b : Bool) → is_of loops y ≡ b → is_of loops y ≡ false
      at true e = absurd (true_not_false (visible_behind s y) h (ap not (nest_own n s loops body is y ∙ or_left (is_of loops y) (is_among (declared_in body) y) e)))
      at false e = e

  round : (u : Vector) → length u ≡ length loops → IsRound s outer K (Set u)
  round u long = record {
    cells = λ t y js. cells_at loops u t y js;
    locals = λ a b y h same. same_at_all loops u a b y long (λ none. same (visible_back y h none));
    outside = λ t y h. outside_at loops u t y h;
    wide = λ y h. visible_more s body (nest_declares n s loops body is) y h;
  }

  abbrev Apart : State → State → Type 0
  Apart r t = Beside s outer (visible_behind s) (λ q. q) r t

  record Walked (us : List Vector) (r t : State) (e : Effect) : Type 0 where
    effect : Effect
    ran : walk loops body us r ≡ Some effect
    text : effect.text ≡ e.text
    after : Apart (overwritten r effect.writes) (overwritten t e.writes)

  abbrev Good : Vector → Type 0
  Good u = (length u ≡ length loops) × InnerLoopsTurn loops body outer u

  walks : (us : List Vector) (r t : State) (e : Effect) → Apart r t → Each Good us → run_iterations loops body us t ≡ Some e → Walked us r t e
  walks [] r t e apart good ran =
      record { effect = nothing; ran = refl; text = ap (λ (f : Effect). f.text) (same_Some nothing e ran); after = subst (λ (f : Effect). Apart r (overwritten t f.writes)) (same_Some nothing e ran) apart }
  walks (u ∷ us) r t e apart good ran =
      let p = parts_of t (run body (Set u t)) (run_iterations loops body us) e ran in
      let r1 : State = Set u r in
      let inside = round u good.0.0 in
      let begun : Beside s outer K (Set u) r1 t = record {
        like = apart.like;
        cells = λ y js. cells_at loops u r y js ∙ apart.cells y js;
        locals = λ y h. inside.locals r t y h (λ k. apart.locals y k);
      } in
      let went = nest_goes s outer there body keeps (Set u) inside r1 t begun good.0.1 p.one p.one_is in
      let now = went.1.after in
      let r2 : State = overwritten r1 p.one.writes in
      let t2 : State = overwritten t p.one.writes in
      let again : Apart r2 t2 = record {
        like = now.like;
        cells = now.cells;
        locals = λ y h. now.locals y (inside.wide y h) ∙ other_at loops u t2 y (none_of y h);
      } in
      let rest = walks us r2 t2 p.two again good.1 p.two_is in
      let turned : then_from r1 (run body r1) (walk loops body us) ≡ Some (joined p.one rest.effect) =
      ap (λ o. then_from r1 o (walk loops body us)) went.0 ∙ ap (map_option (joined p.one)) rest.ran in
      let behind : overwritten r (entered loops u ++ (p.one.writes ++ rest.effect.writes)) ≡ overwritten r2 rest.effect.writes =
      overwritten-append r (entered loops u) (p.one.writes ++ rest.effect.writes)
      ∙ ap (λ q. overwritten q (p.one.writes ++ rest.effect.writes)) (entered_is loops u r)
      ∙ overwritten-append r1 p.one.writes rest.effect.writes in
      let other : overwritten t2 p.two.writes ≡ overwritten t e.writes =
      sym (overwritten-append t p.one.writes p.two.writes) ∙ ap (λ (f : Effect). overwritten t f.writes) p.is in
      record {
        effect = joined (enters loops u) (joined p.one rest.effect);
        ran =
            ap (λ q. map_option (joined (enters loops u)) (then_from q (run body q) (walk loops body us))) (entered_is loops u r)
            ∙ ap (map_option (joined (enters loops u))) turned;
        text = ap (λ c. p.one.text ++ c) rest.text ∙ ap (λ (f : Effect). f.text) p.is;
        after = subst (λ q. Apart q (overwritten t e.writes)) (sym behind) (subst (λ q. Apart (overwritten r2 rest.effect.writes) q) other rest.after);
      }

pub walks_leave : WalksLeaveTheSame
walks_leave n s loops body outer us e is whole keeps locals_alone good ran =
    let there : Like s outer outer = record { locals = λ y h. refl; scalars = λ y h. refl; none = locals_alone } in
    let Right = Good s outer there n loops body is keeps in
    let walked = walks s outer there n loops body is keeps us outer outer e (record { like = there; cells = λ y js. refl; locals = λ y h. refl })
    (each_same Right us (λ u h. good u (contains_among us u h))) ran in
    record { effect = walked.effect; ran = walked.ran; text = walked.text; cells = walked.after.cells }
