-- What is found of a nest and of the roles of its line, put together.
use Rattle.std.specs.Prelude.{ℕ, Bool, true, false, ◌&&◌, ◌≡◌, ◌⊎◌, List, map, Option, Some, None, IfSome, is_none}
use Rattle.std.specs.List.{list_all}
use Rattle.std.proofs.Common.{refl, sym, ap, ◌∙◌, subst, inl, inr}
use Rattle.std.proofs.lemmas.Bool.{true≢false}
use Rattle.std.proofs.lemmas.Option.{same_Some}
use Rattle.semantics.specs.Tree.{Variable, Stmt}
use Rattle.semantics.specs.Meaning.Definite.{DefinitelyAssigned, no_privates, definite}
use Rattle.semantics.specs.Loops.Piece.{Roles}
use Rattle.semantics.proofs.EraseTokenLaw.{first_of, second_of}
use Rattle.law_roles.specs.Updates.{is_plain, reduces}
use Rattle.law_roles.specs.Sharing.{assigned_first, role_variables, are_different, AssignsAll}
use Rattle.flow.specs.declared.fault.DataFault.{DataFault}
use Rattle.flow.specs.declared.fault.DataFault.TheVariants.{OutOfMemory}
use Rattle.flow.specs.Private.{is_private_body, all_but, nest_body_of}
use Rattle.flow.specs.Roles.{LoopData, left_roles, KeepsItsRoles, ReadsAssigned, AssignsLasts, HaveOneRole, CarriesOthers}
use Rattle.flow.specs.Told.{Finds, TellsOfBody, TellsOfRead, TellsOfLast, TellsOfSecond, TellsOfCarried, TellsOfMisuse, TellsOfRoles}
use Rattle.flow.proofs.ListLemmas.{all_known, known_all, apart_same}
use Rattle.flow.proofs.PrivateLemmas.{nest_with, body_of_nest, finds_same}

-- ---- of two faults, one is told

abbrev pub OneOf : Option DataFault → Option DataFault → Option DataFault → Type 0
OneOf o q f = (is_none f ≡ (is_none o && is_none q)) × IfSome f (λ e. (o ≡ Some e) ⊎ (q ≡ Some e))

pub finds_both : (A B : Type 0) (o q f : Option DataFault) → OneOf o q f → Finds o A → Finds q B → Finds f (A × B)
finds_both A B None None None one a b = (a, b)
finds_both A B None None (Some e) one a b = absurd (cc one.0)
finds_both A B None (Some d) None one a b = absurd (cc one.0)
finds_both A B (Some d) q None one a b = absurd (cc one.0)
finds_both A B o q (Some e) one a b = which one.1
  where
    ofone : (o : Option DataFault) → o ≡ Some e → Finds o A → (e ≡ OutOfMemory) ⊎ (A × B → ⊥)
    ofone None is h = absurd (cc is)
    ofone (Some d) is (inl out) = inl (sym (same_Some d e is) ∙ out)
    ofone (Some d) is (inr not) = inr (λ h. not h.0)

    ofother : (q : Option DataFault) → q ≡ Some e → Finds q B → (e ≡ OutOfMemory) ⊎ (A × B → ⊥)
    ofother None is h = absurd (cc is)
    ofother (Some d) is (inl out) = inl (sym (same_Some d e is) ∙ out)
    ofother (Some d) is (inr not) = inr (λ h. not h.1)

    which : (o ≡ Some e) ⊎ (q ≡ Some e) → (e ≡ OutOfMemory) ⊎ (A × B → ⊥)
    which (inl is) = ofone o is a
    which (inr is) = ofother q is b

pub told_both : (T U : DataFault → Type 0) (o q f : Option DataFault) → OneOf o q f → IfSome o T → IfSome q U → IfSome f (λ e. T e ⊎ U e)
told_both T U o q None one t u = tt
told_both T U o q (Some e) one t u = which one.1
  where
    which : (o ≡ Some e) ⊎ (q ≡ Some e) → T e ⊎ U e
    which (inl is) = inl (subst (λ o. IfSome o T) is t)
    which (inr is) = inr (subst (λ o. IfSome o U) is u)

-- what is decided by a Bool
pub finds_true : (o : Option DataFault) (b : Bool) → is_none o ≡ b → Finds o (b ≡ true)
finds_true None b is = sym is
finds_true (Some e) b is = inr (λ h. true≢false (sym h ∙ sym is))

-- ---- a nest

abbrev pub Parts : LoopData → Stmt → Stmt → Type 0
Parts d s body =
    (is_private_body (role_variables (left_roles d)) body ≡ true)
    × (ReadsAssigned d.roles s × (AssignsLasts d.roles body × (HaveOneRole d.roles × (CarriesOthers d × (reduces d.roles.reductions s ≡ true)))))

module _ (d : LoopData) (n : ℕ) (s body : Stmt) (nest : Some body ≡ nest_body_of n s) where
  of_parts : Parts d s body → KeepsItsRoles d n s
  of_parts h =
      let found = nest_with n s body nest in
      record {
        loops = found.0;
        body = body;
        nest = found.1;
        keeps = h.0;
        different = h.1.1.1.0.0;
        apart = h.1.1.1.0.1;
        first = h.1.0;
        last = h.1.1.0;
        once = h.1.1.1.1.0;
        updates = h.1.1.1.1.1;
      }

  parts_of : KeepsItsRoles d n s → Parts d s body
  parts_of its =
      let same : its.body ≡ body = cc (nest, body_of_nest n s its.body its.loops its.nest) in (
        subst (λ b. is_private_body (role_variables (left_roles d)) b ≡ true) same its.keeps,
        (its.first, (subst (AssignsLasts d.roles) same its.last, ((its.different, its.apart), (its.once, its.updates)))),
      )

  pub nest_found : (o q l one t m z a b c f : Option DataFault) → is_none o ≡ is_private_body (role_variables (left_roles d)) body → Finds q (ReadsAssigned d.roles s) → Finds l (AssignsLasts d.roles body) → Finds one (HaveOneRole d.roles) → Finds t (CarriesOthers d)
      → Finds m (reduces d.roles.reductions s ≡ true) → OneOf t m z → OneOf one z a → OneOf l a b → OneOf q b c → OneOf o c f → Finds f (KeepsItsRoles d n s)
  nest_found o q l one t m z a b c f keeps read last single other misuse start first second third fourth =
      finds_same f of_parts parts_of (finds_both _ _ o c f fourth (finds_true o _ keeps) (finds_both _ _ q b c third read (finds_both _ _ l a b second last (finds_both _ _ one z a first single (finds_both _ _ t m z start other misuse)))))

-- what is told of it
pub nest_tells : (d : LoopData) (s body : Stmt) (o q l one t m z a b c f : Option DataFault) → IfSome o (λ e. TellsOfBody e (left_roles d) body) → IfSome q (λ e. TellsOfRead e d.roles s) → IfSome l (λ e. TellsOfLast e d.roles body)
    → IfSome one (λ e. TellsOfSecond e d.roles) → IfSome t (λ e. TellsOfCarried e d) → IfSome m (λ e. TellsOfMisuse e d.roles s) → OneOf t m z → OneOf one z a → OneOf l a b → OneOf q b c → OneOf o c f → IfSome f (λ e. TellsOfRoles e d s body)
nest_tells d s body o q l one t m z a b c f keeps read last single other misuse start first second third fourth =
    told_both (λ e. TellsOfBody e (left_roles d) body) (λ e. TellsOfRead e d.roles s ⊎ TellsOfLast e d.roles body ⊎ TellsOfSecond e d.roles ⊎ TellsOfCarried e d ⊎ TellsOfMisuse e d.roles s) o c f fourth keeps
    (told_both (λ e. TellsOfRead e d.roles s) (λ e. TellsOfLast e d.roles body ⊎ TellsOfSecond e d.roles ⊎ TellsOfCarried e d ⊎ TellsOfMisuse e d.roles s) q b c third read
    (told_both (λ e. TellsOfLast e d.roles body) (λ e. TellsOfSecond e d.roles ⊎ TellsOfCarried e d ⊎ TellsOfMisuse e d.roles s) l a b second last
    (told_both (λ e. TellsOfSecond e d.roles) (λ e. TellsOfCarried e d ⊎ TellsOfMisuse e d.roles s) one z a first single (told_both (λ e. TellsOfCarried e d) (λ e. TellsOfMisuse e d.roles s) t m z start other misuse))))

-- ---- lastprivate variables

module _ (roles : Roles) (body : Stmt) where
  -- all of them are known behind the body
  pub lasts_assigned : (k : DefinitelyAssigned) → definite no_privates body (all_but (assigned_first roles)) ≡ Some k → list_all k roles.lasts ≡ true → AssignsAll (assigned_first roles) roles.lasts body
  lasts_assigned k is all = record { known = k; is = is; each = λ x among. all_known k roles.lasts x all among }

  -- one is not
  pub last_unknown : (k : DefinitelyAssigned) → definite no_privates body (all_but (assigned_first roles)) ≡ Some k → list_all k roles.lasts ≡ false → AssignsAll (assigned_first roles) roles.lasts body → ⊥
  last_unknown k is none its =
      let same : its.known ≡ k = same_Some its.known k (sym its.is ∙ is) in
      true≢false (sym (known_all k roles.lasts (λ x among. ap (λ j. j x) (sym same) ∙ its.each x among)) ∙ none)

-- ---- reduction variables

module _ (roles : Roles) (xs : List Variable) (listed : xs ≡ map (λ r. r.0) roles.reductions) (b : Bool) (is : b ≡ (are_different xs && list_all (all_but (assigned_first roles)) xs)) where
  whole : b ≡ (are_different (map (λ r. r.0) roles.reductions) && list_all (is_plain roles.reductions) (assigned_first roles))
  whole = is ∙ ap (λ ys. are_different ys && list_all (all_but (assigned_first roles)) ys) listed ∙ ap (λ p. are_different (map (λ r. r.0) roles.reductions) && p) (apart_same roles.reductions (assigned_first roles))

  pub one_role : b ≡ true → HaveOneRole roles
  one_role h =
      let both = sym whole ∙ h in
      (first_of (are_different (map (λ r. r.0) roles.reductions)) _ both, second_of (are_different (map (λ r. r.0) roles.reductions)) _ both)

  pub two_roles : b ≡ false → HaveOneRole roles → ⊥
  two_roles h its =
      let both : b ≡ true = whole ∙ ap (λ p. p && list_all (is_plain roles.reductions) (assigned_first roles)) its.0 ∙ its.1 in
      true≢false (sym both ∙ h)

  pub second_told : b ≡ false → (are_different (map (λ r. r.0) roles.reductions) ≡ false) ⊎ (list_all (is_plain roles.reductions) (assigned_first roles) ≡ false)
  second_told h = go (are_different (map (λ r. r.0) roles.reductions)) (list_all (is_plain roles.reductions) (assigned_first roles)) (sym whole ∙ h)
    where
      go : (p q : Bool) → (p && q) ≡ false → (p ≡ false) ⊎ (q ≡ false)
      go true q e = inr e
      go false q e = inl refl
