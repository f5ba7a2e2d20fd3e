-- The turns of the loops over names and clauses.
use Rattle.std.proofs.lemmas.Bool.{cond-true, cond-false}
use Rattle.std.proofs.Common.{◌≡◌, ℕ, suc, ◌+◌, ◌-◌, ◌<◌, Bool, true, false, List, [], ◌∷◌, ◌++◌, map, Option, Some, None, refl, sym, ap, subst, ◌∙◌, arith}
use Rattle.semantics.specs.Tree.{Name}
use Rattle.semantics.specs.Source.Token.{Token}
use Rattle.semantics.specs.Directives.Directive.{Clause}
use Rattle.cparse_grammar.specs.Reading.{◌>>=◌, chosen}
use Rattle.cparse_grammar.specs.NextTokens.{comma}
use Rattle.cparse_grammar.proofs.Binds.{bind_to}
use Rattle.pragma_clause.specs.declared.unread.Unread.{Unread}
use Rattle.pragma_clause.specs.declared.unread.Unread.TheVariants.{Malformed, OutOfMemory}
use Rattle.pragma_clause.specs.Outcome.{Fails}
use Rattle.pragma_clause.specs.ClauseReader.{Reads, is_end, listed, behind_comma, clause, further}

-- a turn that fails
pub fails : {S R : Type 0} (run : ℕ → S → Option R) (count i : ℕ) (s : S) (total : Option R) → run (count - i) s ≡ total → (e : Unread) → i < count → ((n : ℕ) → Fails e (run (suc n) s)) → Fails e total
fails run count i s total so_far e lt f =
    let one : count - i ≡ suc (count - (i + 1)) = omega arith in
    subst (Fails e) (ap (λ n. run n s) (sym one) ∙ so_far) (f (count - (i + 1)))

-- a step that failed
bind_fails : {A B : Type 0} (e : Unread) (o : Option A) (f : A → Option B) → Fails e o → Fails e (o >>= f)
bind_fails Malformed o f h = ap (λ p. p >>= f) h
bind_fails OutOfMemory o f h = tt

-- items read so far, and what is left
abbrev pub listed_run : {A : Type 0} → Reads A → ℕ → List A × List Token → Option (List A × List Token)
listed_run read n s = listed read n s.0 s.1

module _ {A : Type 0} (read : Reads A) (n : ℕ) (xs : List A) (ts : List Token) where
  pub listed_go : (x : A × List Token) (behind : List Token) → read ts ≡ Some x → comma x.1 ≡ Some behind → listed_run read (suc n) (xs, ts) ≡ listed_run read n (xs ++ x.0 ∷ [], behind)
  listed_go x behind e f =
      bind_to _ e ∙ ap (λ o. chosen o (Some (xs ++ x.0 ∷ [], x.1)) (λ behind. listed read n (xs ++ x.0 ∷ []) behind)) f

  pub listed_close : (x : A × List Token) → read ts ≡ Some x → comma x.1 ≡ None → listed_run read (suc n) (xs, ts) ≡ Some (xs ++ x.0 ∷ [], x.1)
  listed_close x e f =
      bind_to _ e ∙ ap (λ o. chosen o (Some (xs ++ x.0 ∷ [], x.1)) (λ behind. listed read n (xs ++ x.0 ∷ []) behind)) f

  pub listed_fail : (e : Unread) → Fails e (read ts) → Fails e (listed_run read (suc n) (xs, ts))
  listed_fail e h = bind_fails e (read ts) _ h

-- a list with one more, as it is viewed
pub mapped : {X A : Type 0} (f : X → A) (xs ys : List X) (x : X) → ys ≡ xs ++ x ∷ [] → map f ys ≡ map f xs ++ f x ∷ []
mapped f xs ys x e = ap (map f) e ∙ go xs
  where
    go : (xs : List _) → map f (xs ++ x ∷ []) ≡ map f xs ++ f x ∷ []
    go [] = refl
    go (y ∷ ys) = ap (λ zs. f y ∷ zs) (go ys)

-- clauses read so far, and what is left
abbrev pub clauses_run : Bool → ℕ → ℕ → List (Clause Name) × List Token → Option (List (Clause Name))
clauses_run exact most n s = further exact most n s.0 s.1

module _ (exact : Bool) (most : ℕ) where
  pub clauses_close : (n : ℕ) (cs : List (Clause Name)) (ts : List Token) → is_end ts ≡ true → clauses_run exact most (suc n) (cs, ts) ≡ Some cs
  clauses_close n cs ts e = cond-true _ _ _ e

  pub clauses_go : (n : ℕ) (cs : List (Clause Name)) (ts : List Token) (c : Clause Name × List Token) → is_end ts ≡ false → clause exact most (behind_comma ts) ≡ Some c
      → clauses_run exact most (suc n) (cs, ts) ≡ clauses_run exact most n (cs ++ c.0 ∷ [], c.1)
  clauses_go n cs ts c e f = cond-false _ _ _ e ∙ bind_to _ f

  pub clauses_fail : (e : Unread) (n : ℕ) (cs : List (Clause Name)) (ts : List Token) → is_end ts ≡ false → Fails e (clause exact most (behind_comma ts)) → Fails e (clauses_run exact most (suc n) (cs, ts))
  clauses_fail e n cs ts f h = subst (Fails e) (sym (cond-false _ _ _ f)) (bind_fails e (clause exact most (behind_comma ts)) _ h)
