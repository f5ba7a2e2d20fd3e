-- Reading up to a precedence is rising from an operand; precedences without an operator are passed over.
use Rattle.std.proofs.Common.{◌≡◌, ℕ, zero, suc, ◌+◌, ◌-◌, ◌<◌, ◌≤◌, List, length, Option, Some, None, refl, ap, ◌∙◌, arith}
use Rattle.semantics.specs.Tree.{Source}
use Rattle.semantics.specs.Source.Token.{Token}
use Rattle.semantics.specs.Source.Scope.{Scope}
use Rattle.cparse_grammar.specs.Reading.{Got, ◌>>=◌}
use Rattle.cparse_grammar.specs.ExpressionReader.{Inner, unary, further, binary}
use Rattle.cparse_cursor.specs.declared.stop.Stop.{Stop}
use Rattle.cparse_cursor.specs.declared.stop.Stop.TheVariants.{Memory, Syntax, Limit}
use Rattle.cparse_cursor.specs.Outcome.{Fails}
use Rattle.cparse_expr.specs.Rising.{rise, NoneWithin}
use Rattle.cparse_expr.proofs.LoopLemmas.{further_ends}

module _ (scope : Scope) (inner : Inner) where
  or_nothing : (o : Option (Got Source)) → o ≡ o >>= λ a. Some a
  or_nothing None = refl
  or_nothing (Some a) = refl

  regroup : {A B C : Type 0} (o : Option A) (f : A → Option B) (g : B → Option C) → ((o >>= f) >>= g) ≡ (o >>= λ x. f x >>= g)
  regroup None f g = refl
  regroup (Some x) f g = refl

  -- reading up to a reach is reading up to a tighter one, and rising from there
  rises_to : (n reached limit : ℕ) (ts : List Token) → n + reached ≡ limit → binary limit scope inner ts ≡ binary reached scope inner ts >>= λ a. rise n reached scope inner a
  rises_to zero reached limit ts e =
      let same : limit ≡ reached = omega arith in
      ap (λ k. binary k scope inner ts) same ∙ or_nothing (binary reached scope inner ts)
  rises_to (suc n) reached limit ts e =
      let one : n + suc reached ≡ limit = omega arith in
      rises_to n (suc reached) limit ts one
      ∙ regroup (binary reached scope inner ts) (λ a. further (length a.rest) (suc reached) (binary reached scope inner) a) (λ b. rise n (suc reached) scope inner b)

  -- precedences that have none are passed over
  passes : (n m total reached to : ℕ) (a : Got Source) → n + reached ≡ to → n + m ≡ total → NoneWithin reached to a.rest → rise total reached scope inner a ≡ rise m to scope inner a
  passes zero m total reached to a e t none =
      let same : reached ≡ to = omega arith in
      let all : total ≡ m = omega arith in
      ap (λ k. rise total k scope inner a) same ∙ ap (λ k. rise k to scope inner a) all
  passes (suc n) m zero reached to a e t none = absurd (omega arith)
  passes (suc n) m (suc total) reached to a e t none =
      let more : n + suc reached ≡ to = omega arith in
      let fewer : n + m ≡ total = omega arith in
      let above : reached < suc reached = omega arith in
      let below : suc reached ≤ to = omega arith in
      ap (λ o. o >>= λ b. rise total (suc reached) scope inner b) (further_ends (length a.rest) (suc reached) (binary reached scope inner) a (none (suc reached) above below))
      ∙ passes n m total (suc reached) to a more fewer (λ k over under. none k (omega arith) under)

  -- no operator up to the limit comes next
  pub rise_ends : (reached limit : ℕ) (a : Got Source) → reached ≤ limit → NoneWithin reached limit a.rest → rise (limit - reached) reached scope inner a ≡ Some a
  rise_ends reached limit a le none = passes (limit - reached) 0 (limit - reached) reached limit a (omega arith) (omega arith) none

  -- one does, of the reach behind this one
  module _ (reached limit tighter : ℕ) (a : Got Source) (from : reached ≤ tighter) (under : tighter < limit) (none : NoneWithin reached tighter a.rest) where
    rise_by : rise (limit - reached) reached scope inner a ≡ further (length a.rest) (suc tighter) (binary tighter scope inner) a >>= λ b. rise (limit - (tighter + 1)) (tighter + 1) scope inner b
    rise_by =
        let one : limit - tighter ≡ suc (limit - (tighter + 1)) = omega arith in
        let next : suc tighter ≡ tighter + 1 = omega arith in
        passes (tighter - reached) (limit - tighter) (limit - reached) reached tighter a (omega arith) (omega arith) none
        ∙ (ap (λ m. rise m tighter scope inner a) one
        ∙ ap (λ k. further (length a.rest) (suc tighter) (binary tighter scope inner) a >>= λ b. rise (limit - (tighter + 1)) k scope inner b) next)

    pub rise_fails : (e : Stop) → Fails e (further (length a.rest) (suc tighter) (binary tighter scope inner) a) → Fails e (rise (limit - reached) reached scope inner a)
    rise_fails Memory f = tt
    rise_fails (Syntax place) f = rise_by ∙ rw f refl
    rise_fails (Limit place) f = rise_by ∙ rw f refl

    pub rise_goes : (b : Got Source) → further (length a.rest) (suc tighter) (binary tighter scope inner) a ≡ Some b → rise (limit - reached) reached scope inner a ≡ rise (limit - (tighter + 1)) (tighter + 1) scope inner b
    rise_goes b f = rise_by ∙ ap (λ o. o >>= λ b. rise (limit - (tighter + 1)) (tighter + 1) scope inner b) f

  from_unary : (limit : ℕ) (ts : List Token) → binary limit scope inner ts ≡ unary scope inner ts >>= λ a. rise (limit - 0) 0 scope inner a
  from_unary limit ts = rises_to (limit - 0) 0 limit ts (omega arith)

  pub binary_fails : (e : Stop) (limit : ℕ) (ts : List Token) → Fails e (unary scope inner ts) → Fails e (binary limit scope inner ts)
  binary_fails Memory limit ts f = tt
  binary_fails (Syntax place) limit ts f = from_unary limit ts ∙ ap (λ o. o >>= λ a. rise (limit - 0) 0 scope inner a) f
  binary_fails (Limit place) limit ts f = from_unary limit ts ∙ ap (λ o. o >>= λ a. rise (limit - 0) 0 scope inner a) f

  pub binary_goes : (limit : ℕ) (ts : List Token) (a : Got Source) → unary scope inner ts ≡ Some a → binary limit scope inner ts ≡ rise (limit - 0) 0 scope inner a
  binary_goes limit ts a f = from_unary limit ts ∙ ap (λ o. o >>= λ a. rise (limit - 0) 0 scope inner a) f
