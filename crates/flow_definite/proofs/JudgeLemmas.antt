-- What is known after the parts of a statement, put together.
use Rattle.std.proofs.Common.{◌≡◌, ℕ, ◌+◌, ◌<◌, Bool, true, false, cond, List, [], length, get_or, drop, map, Option, Some, None, IsSome, refl, sym, ap, ◌∙◌, subst, inl, inr}
use Rattle.std.specs.Prelude.{◌&&◌, nat_lt, replicate}
use Rattle.std.proofs.lemmas.List.{length-map}
use Rattle.semantics.specs.Tree
use Rattle.semantics.specs.Tree.{Items}
use Rattle.semantics.specs.Meaning.Definite.{DefinitelyAssigned, Privates, known_with, without, may_test, may_take, may_step, privates_in, after_both, if_stepped, definite, definite_items, known_at_start, IsDefinite}
use Rattle.flow_definite.specs.declared.fault.ReadFault.{ReadFault}
use Rattle.flow_definite.specs.declared.fault.ReadFault.TheVariants.{Unassigned, OutOfMemory}
use Rattle.ktree.specs.declared.statement.Declaration.{Declaration}
use Rattle.ktree.specs.declared.statement.Kernel.{Kernel}
use Rattle.ktree.specs.declared.statement.Item.{Item}
use Rattle.ktree.specs.View.{items_of, with_item, declaration_of, kernel_of}
use Rattle.pragma_named.specs.Lines.{line_in}
use Rattle.flow_definite.specs.Judged.{known_of, pending, Refuses, RefusesAnyhow, refusal_of, MayBeUnassigned}
use Rattle.flow_definite.proofs.KnownLemmas.{first}
use Rattle.flow_definite.proofs.PrivatesLemmas.{from_here}

module _ (P : Privates) where
  module _ (is : List Item) (i : ℕ) (e : Item) (lt : i < length is) (at : e ≡ get_or is i e) (before : Option ℕ) (k : DefinitelyAssigned) (whole : Option DefinitelyAssigned)
      (left : whole ≡ definite_items P (pending P before) (items_of (drop i is)) k) where
    on : whole ≡ definite_items P (pending P before) (with_item e (items_of (drop (i + 1) is))) k
    on = left ∙ ap (λ xs. definite_items P (pending P before) (items_of xs) k) (from_here is i e lt at)

    -- an item after which something is known
    pub item_judged : (k' : DefinitelyAssigned) (line : Option ℕ) → line ≡ line_in e
        → ((rest : Items) → definite_items P (pending P before) (with_item e rest) k ≡ definite_items P (pending P (line_in e)) rest k') → whole ≡ definite_items P (pending P line) (items_of (drop (i + 1) is)) k'
    item_judged k' line same f = on ∙ f (items_of (drop (i + 1) is)) ∙ ap (λ l. definite_items P (pending P l) (items_of (drop (i + 1) is)) k') (sym same)

    -- an item after which nothing is
    pub item_refused : (r : ReadFault) → RefusesAnyhow (λ rest. definite_items P (pending P before) (with_item e rest) k) r → Refuses whole r
    item_refused r (inl o) = inl o
    item_refused r (inr (n, f)) = inr (n, on ∙ f (items_of (drop (i + 1) is)))

  module _ (x : Tree.Variable) (name : Tree.Name) (start : Tree.Source) (test : Tree.Cond) (step : Tree.Increment) (body : Tree.Stmt) (k : DefinitelyAssigned) where
    abbrev loop : Option DefinitelyAssigned
    loop = definite P (Tree.For x name start test step body) k

    abbrev there : DefinitelyAssigned
    there = without (known_with k x true) (privates_in P body)

    abbrev behind : Option DefinitelyAssigned
    behind = Some (without k (privates_in P body))

    abbrev entered : Bool
    entered = may_take k start && may_test there test

    -- a loop whose start or test reads what may not be
    pub loop_not_entered : (r : ReadFault) → Refuses (cond entered (Some k) None) r → Refuses loop r
    loop_not_entered r h = go entered refl h
      where
        go : (b : Bool) → entered ≡ b → Refuses (cond b (Some k) None) r → Refuses loop r
        go b e (inl o) = inl o
        go true e (inr (n, f)) = cc
        go false e (inr (n, f)) = inr (n, ap (λ b. cond b (if_stepped (λ after. may_step after step) (definite P body there) behind) None) e)

    module _ (inside : DefinitelyAssigned) (is : inside ≡ there) (ok : entered ≡ true) where
      loop_entered : loop ≡ if_stepped (λ after. may_step after step) (definite P body inside) behind
      loop_entered =
          ap (λ b. cond b (if_stepped (λ after. may_step after step) (definite P body there) behind) None) ok ∙ ap (λ i. if_stepped (λ after. may_step after step) (definite P body i) behind) (sym is)

      -- one whose body does
      pub body_refused : (r : ReadFault) → Refuses (definite P body inside) r → Refuses loop r
      body_refused r (inl o) = inl o
      body_refused r (inr (n, f)) = inr (n, loop_entered ∙ ap (λ o. if_stepped (λ after. may_step after step) o behind) f)

      -- its step decides
      pub loop_stepped : (after : DefinitelyAssigned) → definite P body inside ≡ Some after → loop ≡ cond (may_step after step) behind None
      loop_stepped after f = loop_entered ∙ ap (λ o. if_stepped (λ after. may_step after step) o behind) f

-- what is known where a text begins
pub begins : (ds : List Declaration) (n : ℕ) → n ≡ length ds → known_of (replicate n true, false) ≡ known_at_start (map declaration_of ds)
begins ds n e = first n ∙ ap (λ m y. nat_lt y m) (e ∙ sym (length-map ds declaration_of))

module _ (P : Privates) where
  -- a text is judged by its items
  pub text_judged : (n : Kernel) (o : Option DefinitelyAssigned) → definite_items P [] (items_of n.body.items) (known_at_start (map declaration_of n.variables.items)) ≡ o → IsSome o → IsDefinite P (kernel_of n)
  text_judged n o e h = subst IsSome (sym e) h

  -- and refused by them
  pub text_refused : (n : Kernel) (o : Option DefinitelyAssigned) → definite_items P [] (items_of n.body.items) (known_at_start (map declaration_of n.variables.items)) ≡ o → (r : ReadFault) → Refuses o r
      → MayBeUnassigned P n (refusal_of r)
  text_refused n o e OutOfMemory h = inl refl
  text_refused n o e (Unassigned place) (inl h) = cc
  text_refused n o e (Unassigned place) (inr (name, f)) = inr (refl, λ h. no_some _ (e ∙ f) h)
    where
      no_some : (o : Option DefinitelyAssigned) → o ≡ None → IsSome o → ⊥
      no_some None e h = cc
      no_some (Some x) e h = cc

  -- behind an `if` stands what is known behind its branch and before it
  pub one_branch : (c : Tree.Cond) (a : Tree.Stmt) (k after both : DefinitelyAssigned) → may_test k c ≡ true → definite P a k ≡ Some after → both ≡ (λ y. after y && k y) → definite P (Tree.If c a) k ≡ Some both
  one_branch c a k after both test f is = ap (λ b. cond b (after_both (definite P a k) (Some k)) None) test ∙ ap (λ o. after_both o (Some k)) f ∙ ap Some (sym is)

  -- with `else`, what is known behind both
  pub two_branches : (c : Tree.Cond) (a b : Tree.Stmt) (k after other both : DefinitelyAssigned) → may_test k c ≡ true → definite P a k ≡ Some after → definite P b k ≡ Some other → both ≡ (λ y. after y && other y)
      → definite P (Tree.IfElse c a b) k ≡ Some both
  two_branches c a b k after other both test f g is =
      ap (λ t. cond t (after_both (definite P a k) (definite P b k)) None) test ∙ ap (λ o. after_both o (definite P b k)) f ∙ ap (after_both (Some after)) g ∙ ap Some (sym is)
