-- What a team leaves in the variables with a role.
use Rattle.std.specs.Prelude.{ℕ, Bool, true, false, ◌≡◌, ◌==◌, ◌||◌, List, [], ◌∷◌, ◌++◌, map, flat_map, Option, Some, None, IsSome, slice_index, All, is_some, is_none}
use Rattle.std.specs.List.{list_all}
use Rattle.std.proofs.Common.{refl, sym, ap, ◌∙◌, subst, inl, inr}
use Rattle.std.proofs.lemmas.Bool.{true≢false, or_parts}
use Rattle.std.proofs.lemmas.List.Elements.{All-nil, All-cons}
use Rattle.std.proofs.lemmas.List.Folds.{list_any-append}
use Rattle.std.proofs.lemmas.Option.{none-some}
use Rattle.semantics.specs.Tree.{Variable, Stmt}
use Rattle.semantics.specs.Meaning.State.{State, Slot, Outside, Empty, Holds, look, look_in, is_there, overwritten}
use Rattle.semantics.specs.Meaning.Agrees.{is_among, visible_behind}
use Rattle.semantics.specs.Meaning.Runs.{Effect}
use Rattle.semantics.specs.Loops.Nest.{Loop, Vector, nest_of}
use Rattle.semantics.specs.Loops.Operator.{ReduceOp}
use Rattle.semantics.specs.Loops.Piece.{Roles, is_outside}
use Rattle.law_nests.specs.Walks.{walk}
use Rattle.law_roles.specs.Updates.{operator_of, is_plain}
use Rattle.law_roles.specs.Reducing.{AreHeld}
use Rattle.law_roles.specs.Sharing.{assigned_first, role_variables, or_filled, last_filled, IsScalar, SharesFrom, changed_from}
use Rattle.law_roles.proofs.Seen.{look_of}
use Rattle.law_roles.proofs.Starts.{reduced_of}
use Rattle.law_starts.specs.Begun.{told_apart, begun}
use Rattle.law_starts.proofs.Beginning.{begun_locals, begun_cells}
use Rattle.law_starts.proofs.Holding.{walks_keep, chunks_keep}
use Rattle.law_independence.specs.OrderLaws.{AreAtHand}
use Rattle.store.specs.Kept.{Kept}
use Rattle.store.specs.Flat.{values_of}
use Rattle.lower_code.specs.declared.laid.Laid.{Laid}
use Rattle.lower_code.specs.Layout.{shapes_of, cell_at}
use Rattle.team.specs.Together.{HoldsAt, PutTogether}
use Rattle.ompk_run.proofs.AtHand.{one_of}

-- ---- effects of chunks

abbrev AreOf : List Loop → Stmt → State → List (List Vector) → List Effect → Type 0
AreOf loops body start chunks effects = map (λ us. walk loops body us start) chunks ≡ map Some effects

-- what is so of each chunk's effect
each_effect : (loops : List Loop) (body : Stmt) (start : State) (P : Effect → Type 0) → ((us : List Vector) (f : Effect) → walk loops body us start ≡ Some f → P f) → (chunks : List (List Vector)) (effects : List Effect)
    → AreOf loops body start chunks effects → All P effects
each_effect loops body start P h [] [] e = All-nil P
each_effect loops body start P h [] (f ∷ fs) e = absurd (cc e)
each_effect loops body start P h (us ∷ chunks) [] e = absurd (cc e)
each_effect loops body start P h (us ∷ chunks) (f ∷ fs) e =
    let first : walk loops body us start ≡ Some f = cc in
    let rest : AreOf loops body start chunks fs = cc in
    All-cons P f fs (h us f first) (each_effect loops body start P h chunks fs rest)

-- the last chunk with an iteration has a walk
last_walk : (loops : List Loop) (body : Stmt) (start : State) (chunks : List (List Vector)) (effects : List Effect) → AreOf loops body start chunks effects → (f : Effect) → last_filled chunks effects ≡ Some f
    → (us : List Vector) × (walk loops body us start ≡ Some f)
last_walk loops body start [] es e f h = absurd (none-some f h)
last_walk loops body start (us ∷ chunks) [] e f h = absurd (none-some f h)
last_walk loops body start (us ∷ chunks) (g ∷ es) e f h =
    let first : walk loops body us start ≡ Some g = cc in
    let rest : AreOf loops body start chunks es = cc in
    go us first (last_filled chunks es) h (λ k. last_walk loops body start chunks es rest f k)
  where
    go : (vs : List Vector) → walk loops body vs start ≡ Some g → (o : Option Effect) → or_filled vs g o ≡ Some f → (o ≡ Some f → (ws : List Vector) × (walk loops body ws start ≡ Some f)) → (ws : List Vector) × (walk loops body ws start ≡ Some f)
    go vs w (Some d) k rest = rest k
    go [] w None k rest = absurd (none-some f k)
    go (v ∷ vs) w None k rest = (v ∷ vs, w ∙ k)

-- ---- lists of variables

abbrev pub reduced : Roles → List Variable
reduced roles = map (λ r. r.0) roles.reductions

pub in_two : (x : Variable) (xs ys : List Variable) → is_among (xs ++ ys) x ≡ (is_among xs x || is_among ys x)
in_two x xs ys = list_any-append (λ y. y == x) xs ys

-- what has no role is not told apart
pub none_told : (roles : Roles) (x : Variable) → is_among (role_variables roles) x ≡ false → is_among (told_apart roles) x ≡ false
none_told roles x h =
    let one = or_parts (is_among (assigned_first roles) x) (is_among (reduced roles) x) (sym (in_two x (assigned_first roles) (reduced roles)) ∙ h) in
    let two = or_parts (is_among roles.privates x) (is_among roles.lasts x) (sym (in_two x roles.privates roles.lasts) ∙ one.0) in
    in_two x roles.lasts (reduced roles) ∙ (λ i. two.1 i || one.1 i)

or_true : (b : Bool) → (b || true) ≡ true
or_true true = refl
or_true false = refl

pub last_first : (roles : Roles) (x : Variable) → is_among roles.lasts x ≡ true → is_among (assigned_first roles) x ≡ true
last_first roles x h = in_two x roles.privates roles.lasts ∙ ap (λ b. is_among roles.privates x || b) h ∙ or_true (is_among roles.privates x)

pub first_role : (roles : Roles) (x : Variable) → is_among (assigned_first roles) x ≡ true → is_among (role_variables roles) x ≡ true
first_role roles x h = in_two x (assigned_first roles) (reduced roles) ∙ ap (λ b. b || is_among (reduced roles) x) h

reduced_role : (roles : Roles) (x : Variable) → is_among (reduced roles) x ≡ true → is_among (role_variables roles) x ≡ true
reduced_role roles x h = in_two x (assigned_first roles) (reduced roles) ∙ ap (λ b. is_among (assigned_first roles) x || b) h ∙ or_true (is_among (assigned_first roles) x)

-- what has a role is private or told apart
pub role_told : (roles : Roles) (x : Variable) → is_among (role_variables roles) x ≡ true → is_among (told_apart roles) x ≡ false → is_among roles.privates x ≡ true
role_told roles x h k =
    let parts = or_parts (is_among roles.lasts x) (is_among (reduced roles) x) (sym (in_two x roles.lasts (reduced roles)) ∙ k) in
    go (is_among roles.privates x) refl (sym (in_two x (assigned_first roles) (reduced roles) ∙ (λ i. in_two x roles.privates roles.lasts i || parts.1 i) ∙ (λ i. (is_among roles.privates x || parts.0 i) || false)) ∙ h)
  where
    go : (b : Bool) → is_among roles.privates x ≡ b → ((b || false) || false) ≡ true → is_among roles.privates x ≡ true
    go true e q = e
    go false e q = absurd (true≢false (sym q))

-- ---- what a variable holds behind the loop that is told apart

-- a number that its cell or register holds, or what it held before with these as they were, or nothing
pub data IsTold (layout : List Laid) (s after : State) (rs rs' : List ℕ) (ks ks' : List Kept) (x : Variable) : Type 0 where
  holds : (v : ℕ) → look after x [] ≡ Some v → HoldsAt layout rs' ks' x v → IsTold layout s after rs rs' ks ks' x
  stays : look after x [] ≡ look s x [] → cell_at (shapes_of layout) (values_of ks') x [] ≡ cell_at (shapes_of layout) (values_of ks) x [] → slice_index rs' x ≡ slice_index rs x → IsTold layout s after rs rs' ks ks' x
  empty : s.locals x ≡ Empty → look after x [] ≡ None → IsTold layout s after rs rs' ks ks' x

-- behind each chunk the reduction variables hold numbers
pub keep_numbers : (s : State) (roles : Roles) (n : ℕ) (a : Stmt) (loops : List Loop) (body : Stmt) → nest_of n a ≡ Some (loops, body) → ((x : Variable) → is_among (role_variables roles) x ≡ true → visible_behind a x ≡ true)
    → (chunks : List (List Vector)) (effects : List Effect) → AreOf loops body (begun roles s) chunks effects → AreHeld roles.reductions s → All (λ f. AreHeld roles.reductions (overwritten (begun roles s) f.writes)) effects
keep_numbers s roles n a loops body nest seen chunks effects each held =
    each_effect loops body (begun roles s) (λ f. AreHeld roles.reductions (overwritten (begun roles s) f.writes)) (λ us f w. chunks_keep roles n a loops body us s f nest seen held w) chunks effects each

module _ (layout : List Laid) (s : State) (rs rs' : List ℕ) (ks ks' : List Kept) (roles : Roles) (n : ℕ) (a : Stmt) (loops : List Loop) (body : Stmt) (nest : nest_of n a ≡ Some (loops, body))
    (seen : (x : Variable) → is_among (role_variables roles) x ≡ true → visible_behind a x ≡ true) (hand : AreAtHand roles a s) where
  abbrev start : State
  start = begun roles s

  module _ (plain : list_all (is_plain roles.reductions) (assigned_first roles) ≡ true) (chunks : List (List Vector)) (e : Effect) (shares : SharesFrom start (changed_from start) roles a loops body chunks s e)
      {text text' : List ℕ} (merged : PutTogether layout roles s start chunks shares.effects rs rs' ks ks' text text') where
    abbrev after : State
    after = overwritten s e.writes

    abbrev Told : Variable → Type 0
    Told x = IsTold layout s after rs rs' ks ks' x

    told_reduced : (x : Variable) (op : ReduceOp) → operator_of roles.reductions x ≡ Some op → Told x
    told_reduced x op is =
        let number = hand.numbers x op is in
        let together = merged.reductions x op number.0 is number.1 in
        holds _ (shares.reductions x op number.0 together.0 is number.1 together.1) together.2

    -- a lastprivate variable is not reduced, so that it begins as it was
    last_begins : (x : Variable) → is_among roles.lasts x ≡ true → look start x [] ≡ look s x []
    last_begins x h = look_of x start s (begun_locals roles.reductions s x gone) (λ is. begun_cells roles.reductions s x is gone) []
      where
        plain_there : is_plain roles.reductions x ≡ true
        plain_there = one_of (is_plain roles.reductions) (assigned_first roles) plain x (last_first roles x h)

        go : (b : Bool) → is_among (reduced roles) x ≡ b → b ≡ false
        go false q = refl
        go true q = let op = reduced_of roles.reductions x q in absurd (true≢false (sym plain_there ∙ ap is_none op.1))

        gone : is_among (reduced roles) x ≡ false
        gone = go (is_among (reduced roles) x) refl

    -- and holds a number behind a chunk where it held one before the loop
    last_keeps : (x : Variable) → is_among roles.lasts x ≡ true → (f : Effect) → last_filled chunks shares.effects ≡ Some f → IsSome (look s x []) → IsSome (look (overwritten start f.writes) x [])
    last_keeps x h f is some =
        let found = last_walk loops body start chunks shares.effects shares.each f is in
        walks_keep n a loops body found.0 start f x nest (seen x (first_role roles x (last_first roles x h))) found.1 (subst (λ o. IsSome o) (sym (last_begins x h)) some)

    told_filled : (x : Variable) → is_among roles.lasts x ≡ true → (f : Effect) → last_filled chunks shares.effects ≡ Some f → Told x
    told_filled x h f is = go (look (overwritten start f.writes) x []) refl
      where
        leaves : look after x [] ≡ look (overwritten start f.writes) x []
        leaves = shares.lasts x f h is

        lost : look (overwritten start f.writes) x [] ≡ None → (k : Slot) → s.locals x ≡ k → is_some (look_in k s x []) ≡ true → ⊥
        lost none k e some = true≢false (sym (last_keeps x h f is (ap (λ l. is_some (look_in l s x [])) e ∙ some)) ∙ ap is_some none)

        there_some : (o : Option ℕ) → is_there o ≡ true → is_some o ≡ true
        there_some None q = absurd (true≢false (sym q))
        there_some (Some v) q = refl

        nothing : look (overwritten start f.writes) x [] ≡ None → (k : Slot) → s.locals x ≡ k → IsScalar s x → Told x
        nothing none Outside e (inl up) = absurd (true≢false (ap is_outside (sym e) ∙ up))
        nothing none Outside e (inr file) = absurd (lost none Outside e (there_some (s.cells x []) file.there))
        nothing none Empty e scalar = empty e (leaves ∙ none)
        nothing none (Holds v) e scalar = absurd (lost none (Holds v) e refl)

        go : (o : Option ℕ) → look (overwritten start f.writes) x [] ≡ o → Told x
        go None q = nothing q (s.locals x) refl (hand.scalars x (first_role roles x (last_first roles x h)))
        go (Some v) q = holds v (leaves ∙ q) (merged.lasts x f v h is q)

    told_last : (x : Variable) → is_among roles.lasts x ≡ true → Told x
    told_last x h = go (flat_map (λ us. us) chunks) refl
      where
        some : (o : Option Effect) → last_filled chunks shares.effects ≡ o → IsSome o → Told x
        some None q there = absurd (true≢false (sym there))
        some (Some f) q there = told_filled x h f q

        go : (us : List Vector) → flat_map (λ us. us) chunks ≡ us → Told x
        go [] q = stays (shares.no_last x h q) (merged.no_last x h q).0 (merged.no_last x h q).1
        go (u ∷ us) q = some (last_filled chunks shares.effects) refl (shares.filled (λ none. absurd (cc (sym q ∙ none))))

    pub told_scalar : (x : Variable) → is_among (told_apart roles) x ≡ true → Told x
    told_scalar x h = go (is_among (reduced roles) x) refl
      where
        go : (b : Bool) → is_among (reduced roles) x ≡ b → Told x
        go true q = let op = reduced_of roles.reductions x q in told_reduced x op.0 op.1
        go false q = told_last x (last (is_among roles.lasts x) refl)
          where
            last : (b : Bool) → is_among roles.lasts x ≡ b → is_among roles.lasts x ≡ true
            last true e = e
            last false e = absurd (true≢false (sym h ∙ in_two x roles.lasts (reduced roles) ∙ (λ i. e i || q i)))
