-- Walks over iterations of a scan, from any state in which the scan variable holds the same.
use Rattle.std.specs.Prelude.{ℕ, suc, false, ◌≡◌, ◌≢◌, ◌==◌, ◌||◌, ◌<◌, List, [], ◌∷◌, ◌++◌, length, Some, Contains, slice_index_or}
use Rattle.std.specs.List.{AllPairs, AllByRecursion as Each}
use Rattle.std.proofs.Common.{refl, sym, ap, ◌∙◌, subst, inl, arith}
use Rattle.std.proofs.lemmas.Bool.{true≢false, eq-eqb, or_right}
use Rattle.std.proofs.lemmas.List.{append-nil, append_assoc}
use Rattle.std.proofs.lemmas.Option.{same_Some, none-some}
use Rattle.semantics.specs.Tree.{Variable, Stmt}
use Rattle.semantics.specs.Meaning.State.{State, Slot, Outside, Empty, Holds, overwritten, look, look_in}
use Rattle.semantics.specs.Meaning.Value.{map_option}
use Rattle.semantics.specs.Meaning.Runs.{Effect, nothing, joined, then_from, run}
use Rattle.semantics.specs.Meaning.Agrees.{is_among}
use Rattle.semantics.specs.Loops.Nest.{Loop, Vector, at_vector}
use Rattle.semantics.specs.Loops.Access.{Writes, Conflict}
use Rattle.semantics.specs.Loops.Piece.{is_outside}
use Rattle.law_commute.specs.Targets.{KeepsApart, AssignsFirst}
use Rattle.law_commute.specs.Commuting.{InnerLoopsTurn}
use Rattle.law_commute.proofs.Matched.{overwritten-append}
use Rattle.law_commute.proofs.Lists.{each_left, each_right}
use Rattle.law_nests.specs.Walks.{walk, entered, enters}
use Rattle.law_nests.proofs.Nested.{parts_of}
use Rattle.law_private.proofs.Own.{DeclaresNone}
use Rattle.law_roles.specs.Following.{variables_of}
use Rattle.law_roles.proofs.Recorded.{entered_is, kept_entered}
use Rattle.law_roles.proofs.Chunked.{each_contains}
use Rattle.law_scans.specs.Iterations.{StandsAt, ChunksRepeat}
use Rattle.law_scans.proofs.Steps.{Apart, Intact, IsSet, Sound, goes, goes_too, same_slot}

-- ---- a walk and one more iteration

pub walk_cons : (loops : List Loop) (body : Stmt) (u : Vector) (us : List Vector) (a : State) (e f : Effect) → run body (at_vector loops u a) ≡ Some e → walk loops body us (overwritten (at_vector loops u a) e.writes) ≡ Some f
    → walk loops body (u ∷ us) a ≡ Some (joined (enters loops u) (joined e f))
walk_cons loops body u us a e f one two =
    ap (λ q. map_option (joined (enters loops u)) (then_from q (run body q) (walk loops body us))) (entered_is loops u a)
    ∙ ap (λ o. map_option (joined (enters loops u)) (then_from (at_vector loops u a) o (walk loops body us))) one
    ∙ ap (λ o. map_option (joined (enters loops u)) (map_option (joined e) o)) two

pub left_cons : (loops : List Loop) (u : Vector) (a : State) (e f : Effect) → overwritten a (joined (enters loops u) (joined e f)).writes ≡ overwritten (overwritten (at_vector loops u a) e.writes) f.writes
left_cons loops u a e f =
    overwritten-append a (entered loops u) (e.writes ++ f.writes) ∙ ap (λ q. overwritten q (e.writes ++ f.writes)) (entered_is loops u a)
    ∙ overwritten-append (at_vector loops u a) e.writes f.writes

-- its parts
pub record Split (loops : List Loop) (body : Stmt) (u : Vector) (us : List Vector) (a : State) (f : Effect) : Type 0 where
  pub one : Effect
  pub two : Effect
  pub one_is : run body (at_vector loops u a) ≡ Some one
  pub two_is : walk loops body us (overwritten (at_vector loops u a) one.writes) ≡ Some two
  pub whole : joined (enters loops u) (joined one two) ≡ f

pub split_of : (loops : List Loop) (body : Stmt) (u : Vector) (us : List Vector) (a : State) (f : Effect) → walk loops body (u ∷ us) a ≡ Some f → Split loops body u us a f
split_of loops body u us a f ran =
    let q : State = overwritten a (entered loops u) in
    let p = parts_of a (Some (enters loops u)) (λ q. then_from q (run body q) (walk loops body us)) f ran in
    let first : enters loops u ≡ p.one = same_Some (enters loops u) p.one p.one_is in
    let two_is : then_from q (run body q) (walk loops body us) ≡ Some p.two = ap (λ (g : Effect). then_from (overwritten a g.writes) (run body (overwritten a g.writes)) (walk loops body us)) first ∙ p.two_is in
    let r = parts_of q (run body q) (walk loops body us) p.two two_is in
    record {
      one = r.one;
      two = r.two;
      one_is = ap (run body) (sym (entered_is loops u a)) ∙ r.one_is;
      two_is = ap (λ t. walk loops body us (overwritten t r.one.writes)) (sym (entered_is loops u a)) ∙ r.two_is;
      whole = ap (joined (enters loops u)) r.is ∙ ap (λ (g : Effect). joined g p.two) first ∙ p.is;
    }

-- ---- none touches what one before it writes

abbrev pub AllApart : List Loop → Stmt → State → List Vector → Type 0
AllApart loops body o [] = Unit {0}
AllApart loops body o (u ∷ us) = Each (Apart loops body o u) us × AllApart loops body o us

pub apart_left : (loops : List Loop) (body : Stmt) (o : State) (us vs : List Vector) → AllApart loops body o (us ++ vs) → AllApart loops body o us
apart_left loops body o [] vs h = tt
apart_left loops body o (u ∷ us) vs h = (each_left (Apart loops body o u) us vs h.0, apart_left loops body o us vs h.1)

pub apart_right : (loops : List Loop) (body : Stmt) (o : State) (us vs : List Vector) → AllApart loops body o (us ++ vs) → AllApart loops body o vs
apart_right loops body o [] vs h = h
apart_right loops body o (u ∷ us) vs h = apart_right loops body o us vs h.1

-- ---- a walk in two parts

pub record Halves (loops : List Loop) (body : Stmt) (us vs : List Vector) (a : State) (f : Effect) : Type 0 where
  pub one : Effect
  pub two : Effect
  pub one_is : walk loops body us a ≡ Some one
  pub two_is : walk loops body vs (overwritten a one.writes) ≡ Some two
  pub whole : f ≡ joined one two

pub halves : (loops : List Loop) (body : Stmt) (us vs : List Vector) (a : State) (f : Effect) → walk loops body (us ++ vs) a ≡ Some f → Halves loops body us vs a f
halves loops body [] vs a f ran = record { one = nothing; two = f; one_is = refl; two_is = ran; whole = refl }
halves loops body (u ∷ us) vs a f ran =
    let p = split_of loops body u (us ++ vs) a f ran in
    let q : State = overwritten (at_vector loops u a) p.one.writes in
    let rest = halves loops body us vs q p.two p.two_is in
    record {
      one = joined (enters loops u) (joined p.one rest.one);
      two = rest.two;
      one_is = walk_cons loops body u us a p.one rest.one p.one_is rest.one_is;
      two_is = ap (walk loops body vs) (left_cons loops u a p.one rest.one) ∙ rest.two_is;
      whole = sym p.whole ∙ (λ i. joined (enters loops u) (joined p.one (rest.whole i))) ∙ grouped p.one rest.one rest.two;
    }
  where
    grouped : (d e g : Effect) → joined (enters loops u) (joined d (joined e g)) ≡ joined (joined (enters loops u) (joined d e)) g
    grouped d e g = λ i. record {
      writes = (ap (λ ws. entered loops u ++ ws) (sym (append_assoc d.writes e.writes g.writes)) ∙ sym (append_assoc (entered loops u) (d.writes ++ e.writes) g.writes)) i;
      text = sym (append_assoc d.text e.text g.text) i;
    }

module _ (x : Variable) (ps : List Variable) (body : Stmt) (keeps : KeepsApart (x ∷ ps) body) (none : DeclaresNone (x ∷ ps) body) (first : AssignsFirst ps body) (apart : is_among ps x ≡ false) (loops : List Loop) (o : State)
    (not_of_loops : is_among (variables_of loops) x ≡ false) where
  abbrev pub Set : List Vector → State → ℕ → Type 0
  Set us a v = IsSet x ps loops body o us a v

  abbrev pub Fit : Vector → Type 0
  Fit u = Sound x ps body keeps none first apart loops o not_of_loops u

  pub set_first : (us vs : List Vector) (a : State) (v : ℕ) → Set (us ++ vs) a v → Set us a v
  set_first us vs a v s = record { locals = s.locals; scalars = s.scalars; elements = each_left (Intact loops body o a) us vs s.elements; inside = s.inside; holds = s.holds }

  pub set_value : (us : List Vector) (a : State) (v w : ℕ) → Set us a v → a.locals x ≡ Holds w → Set us a w
  set_value us a v w s h = record { locals = s.locals; scalars = s.scalars; elements = s.elements; inside = s.inside; holds = h }

  -- the same from any state that is set so
  pub record Walked (us vs : List Vector) (a : State) (v : ℕ) (f : Effect) : Type 0 where
    pub next : ℕ
    pub after : Set vs (overwritten a f.writes) next
    pub others : (b : State) → Set us b v → (walk loops body us b ≡ Some f) × ((overwritten b f.writes).locals x ≡ Holds next)

  pub walked : (us vs : List Vector) (a : State) (v : ℕ) (f : Effect) → Each Fit us → AllApart loops body o (us ++ vs) → Set (us ++ vs) a v → walk loops body us a ≡ Some f → Walked us vs a v f
  walked [] vs a v f fit clear set ran =
      subst (Walked [] vs a v) (same_Some nothing f ran) (record { next = v; after = set; others = λ b s. (refl, s.holds) })
  walked (u ∷ us) vs a v f fit clear set ran =
      let p = split_of loops body u us a f ran in
      let one = goes x ps body keeps none first apart loops o not_of_loops u (us ++ vs) a v p.one fit.0.0 fit.0.1 set clear.0 p.one_is in
      let rest = walked us vs (overwritten (at_vector loops u a) p.one.writes) one.next p.two fit.1 clear.1 one.after p.two_is in
      subst (Walked (u ∷ us) vs a v) p.whole
      (record {
        next = rest.next;
        after = subst (λ t. Set vs t rest.next) (sym (left_cons loops u a p.one p.two)) rest.after;
        others = λ b s.
            let near = each_left (Apart loops body o u) us vs clear.0 in
            let is = goes_too x ps body keeps none first apart loops o not_of_loops u us b v p.one fit.0.0 fit.0.1 s near one.own_is in
            let mine = goes x ps body keeps none first apart loops o not_of_loops u us b v p.one fit.0.0 fit.0.1 s near is in
            let entered_same : (at_vector loops u b).locals x ≡ (at_vector loops u a).locals x = kept_entered loops u b x not_of_loops ∙ s.holds ∙ sym (kept_entered loops u a x not_of_loops ∙ set.holds) in
            let value : (overwritten (at_vector loops u b) p.one.writes).locals x ≡ Holds one.next = same_slot x p.one.writes (at_vector loops u b) (at_vector loops u a) entered_same ∙ one.after.holds in
            let more = rest.others (overwritten (at_vector loops u b) p.one.writes) (set_value us (overwritten (at_vector loops u b) p.one.writes) mine.next one.next mine.after value) in (
              walk_cons loops body u us b p.one p.two is more.0,
              ap (λ (t : State). t.locals x) (left_cons loops u b p.one p.two) ∙ more.1,
            );
      })

  -- to the end of them
  pub walked_all : (us : List Vector) (a : State) (v : ℕ) (f : Effect) → Each Fit us → AllApart loops body o us → Set us a v → walk loops body us a ≡ Some f → Walked us [] a v f
  walked_all us a v f fit clear set ran =
      walked us [] a v f fit (subst (AllApart loops body o) (sym (append-nil us)) clear) (subst (λ ws. Set ws a v) (sym (append-nil us)) set) ran

  -- a state that is as before the loop but for these
  pub set_start : (us : List Vector) (start : State) (v : ℕ) → StandsAt x ps o v start → Set us start v
  set_start us start v s = record {
    locals = λ y seen other free. s.locals y other;
    scalars = λ y seen other. s.scalars y other;
    elements = each_contains (Intact loops body o start) us (λ u h y j js mode t. s.elements y j js);
    inside = λ y h. s.inside y (or_right (x == y) (is_among ps y) h);
    holds = at (start.locals x) refl (s.inside x (ap (λ b. b || is_among ps x) (eq-eqb x x refl))) s.value;
  }
    where
      at : (k : Slot) → start.locals x ≡ k → is_outside (start.locals x) ≡ false → look start x [] ≡ Some v → start.locals x ≡ Holds v
      at Outside e inside seen = absurd (true≢false (sym (ap is_outside e) ∙ inside))
      at Empty e inside seen = absurd (none-some v (sym (ap (λ l. look_in l start x []) e) ∙ seen))
      at (Holds n) e inside seen = e ∙ ap Holds (same_Some n v (sym (ap (λ l. look_in l start x []) e) ∙ seen))

-- ---- iterations that do not conflict

contains_first : {A : Type 0} (x : A) (xs : List A) → Contains (x ∷ xs) x
contains_first x xs = (0, omega arith, refl)

contains_later : {A : Type 0} (x y : A) (xs : List A) → Contains xs y → Contains (x ∷ xs) y
contains_later x y xs h = (suc h.0, (let lt = h.1 in omega (arith, lt)), h.2)

each_index : {A : Type 0} (P : A → Type 0) (xs : List A) → ((i : ℕ) (d : A) → i < length xs → P (slice_index_or xs i d)) → Each P xs
each_index P [] h = tt
each_index P (x ∷ xs) h = (h 0 x (omega arith), each_index P xs (λ i d lt. h (suc i) d (omega (arith, lt))))

pub all_apart : (loops : List Loop) (body : Stmt) (o : State) (us : List Vector) → AllPairs (λ u v. u ≢ v) us → ((u v : Vector) → Contains us u → Contains us v → Conflict loops body o u v → ⊥) → AllApart loops body o us
all_apart loops body o [] different independent = tt
all_apart loops body o (u ∷ us) different independent = (
  aparts us (each_index (λ v. u ≢ v) us (λ i d lt. different 0 (suc i) d (omega arith) (omega (arith, lt)))) (λ v h. independent u v (contains_first u us) (contains_later u v us h)),
  all_apart loops body o us (λ i j d lt below. different (suc i) (suc j) d (omega (arith, lt)) (omega (arith, below))) (λ v w h k. independent v w (contains_later u v us h) (contains_later u w us k)),
)
  where
    one : (v : Vector) → u ≢ v → (Conflict loops body o u v → ⊥) → Apart loops body o u v
    one v differ none y j js mode s t =
        none (record { differ = differ; element = record { array = y; indexes = j ∷ js }; first = Writes; second = mode; one_writes = inl refl; by_first = s; by_second = t })

    aparts : (vs : List Vector) → Each (λ v. u ≢ v) vs → ((v : Vector) → Contains vs v → Conflict loops body o u v → ⊥) → Each (Apart loops body o u) vs
    aparts [] apart none = tt
    aparts (v ∷ vs) apart none = (one v apart.0 (none v (contains_first v vs)), aparts vs apart.1 (λ w h. none w (contains_later v w vs h)))

-- ---- the law

pub repeat : ChunksRepeat
repeat x ps loops body us vs outer v e is stands ran =
    let all : Each Fits (us ++ vs) = each_contains Fits (us ++ vs) (λ u h. (is.long u h, is.turning u h)) in
    let clear = all_apart loops body outer (us ++ vs) is.different is.independent in
    let parts = halves loops body us vs outer e ran in
    let one = walked x ps body is.keeps is.declares_none is.first is.apart loops outer is.not_of_loops us vs outer v parts.one (each_left Fits us vs all) clear
    (set_start x ps body is.keeps is.declares_none is.first is.apart loops outer is.not_of_loops (us ++ vs) outer v stands) parts.one_is in
    let two = walked_all x ps body is.keeps is.declares_none is.first is.apart loops outer is.not_of_loops vs (overwritten outer parts.one.writes) one.next parts.two (each_right Fits us vs all) (apart_right loops body outer us vs clear)
    one.after parts.two_is in
    record {
      before = parts.one;
      before_is = parts.one_is;
      value = one.next;
      value_is = seen (overwritten outer parts.one.writes) one.next one.after.holds;
      alone = parts.two;
      alone_is = parts.two_is;
      repeated = λ start s.
          let same = two.others start (set_start x ps body is.keeps is.declares_none is.first is.apart loops outer is.not_of_loops vs start one.next s) in (
            same.0,
            seen (overwritten start parts.two.writes) two.next same.1 ∙ sym (seen (overwritten (overwritten outer parts.one.writes) parts.two.writes) two.next two.after.holds),
          );
      whole = parts.whole;
    }
  where
    Fits : Vector → Type 0
    Fits u = (length u ≡ length loops) × InnerLoopsTurn loops body outer u

    seen : (t : State) (n : ℕ) → t.locals x ≡ Holds n → look t x [] ≡ Some n
    seen t n h = ap (λ k. look_in k t x []) h
