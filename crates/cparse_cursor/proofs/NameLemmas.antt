-- How visible names are added and forgotten.
use Rattle.std.proofs.Common.{◌≡◌, ℕ, Bool, true, false, List, [], ◌∷◌, ◌++◌, cond, Option, None, Some, Result, Ok, Err, option_map, refl, sym, ap, ◌∙◌}
use Rattle.std.proofs.lemmas.Map.Text.{hash_map_updates_str}
use Rattle.std.proofs.lemmas.Slice.Eq.{bytes_eq-Decides}
use Rattle.std.specs.Prelude.{IsSome, is_some, OnOk, OnErr}
use Rattle.std.specs.HashMap.{HashMap, UpdatesBy, get_by}
use Rattle.std.specs.Str.{bytes_eq}
use denote.Ref.{Bor}
use Rattle.semantics.specs.Tree.{Name}
use Rattle.semantics.specs.Source.Scope.{Scope, find, same_name}
use Rattle.cparse_cursor.specs.declared.scope.Entity.{Entity}
use Rattle.cparse_cursor.specs.declared.scope.Binding.{Binding}
use Rattle.cparse_cursor.specs.Names.{entity_of, bound, seen, stands, IsKept, IsTied}

-- the last one is innermost
pub seen_last : (scope : Scope) (bs : List Binding) (b : Binding) → seen scope (bs ++ b ∷ []) ≡ bound b ∷ seen scope bs
seen_last scope [] b = refl
seen_last scope (x ∷ bs) b = seen_last (bound x ∷ scope) bs b

-- what is kept with one more
kept_last : (scope : Scope) (bs : List Binding) (b : Binding) → IsKept scope bs → option_map entity_of b.before ≡ find (seen scope bs) b.name.now → IsKept scope (bs ++ b ∷ [])
kept_last scope [] b k h = (h, tt)
kept_last scope (x ∷ bs) b k h = (k.0, kept_last (bound x ∷ scope) bs b k.1 h)

-- what is kept with those in front of the last one, and with that
kept_front : (scope : Scope) (bs : List Binding) (b : Binding) → IsKept scope (bs ++ b ∷ []) → IsKept scope bs × (option_map entity_of b.before ≡ find (seen scope bs) b.name.now)
kept_front scope [] b k = (tt, k.0)
kept_front scope (x ∷ bs) b k = let h = kept_front (bound x ∷ scope) bs b k.1 in ((k.0, h.0), h.1)

mapped : (b : Bool) (x y : Option Entity) → option_map entity_of (cond b x y) ≡ cond b (option_map entity_of x) (option_map entity_of y)
mapped true x y = refl
mapped false x y = refl

module _ {S : Type 0} (old new : HashMap (Bor (List ℕ)) Entity S) where
  -- a map after one key was set or taken out
  pub set_at : (w : Option Entity) (name : Bor (List ℕ)) → UpdatesBy (λ x y. bytes_eq x.now y.now) (λ k. bytes_eq name.now k.now) old new w → (q : Name) → stands new q ≡ cond (same_name name.now q) (option_map entity_of w) (stands old q)
  set_at w name u q = ap (option_map entity_of) (hash_map_updates_str name.now old new w u q) ∙ mapped (same_name name.now q) w _

  -- a map in which one key was set anew, which takes no room
  pub set_again : {A E : Type 0} (w : Entity) (name : Bor (List ℕ)) (result : Result A E) → IsSome (stands old name.now) → OnOk result (UpdatesBy (λ x y. bytes_eq x.now y.now) (λ k. bytes_eq name.now k.now) old new (Some w)) → OnErr result (get_by (λ k. bytes_eq name.now k.now) old ≡ None) → (q : Name) → stands new q ≡ cond (same_name name.now q) (Some (entity_of w)) (stands old q)
  set_again w name (Ok x) s u n = set_at (Some w) name u
  set_again w name (Err e) s u n = absurd (let d : false ≡ true = sym (ap (λ o. is_some (option_map entity_of o)) n) ∙ s in cc)

  -- one more name
  pub tied_more : (bs : List Binding) (b : Binding) → IsTied old bs → option_map entity_of b.before ≡ stands old b.name.now → ((q : Name) → stands new q ≡ cond (same_name b.name.now q) (Some (entity_of b.entity)) (stands old q)) → IsTied new (bs ++ b ∷ [])
  tied_more bs b t h u =
      ((λ q. u q ∙ ap (cond (same_name b.name.now q) (Some (entity_of b.entity))) (t.0 q) ∙ sym (ap (λ s. find s q) (seen_last [] bs b))), kept_last [] bs b t.1 (h ∙ t.0 b.name.now))

  -- the last name is forgotten
  pub tied_less : (bs : List Binding) (b : Binding) → IsTied old (bs ++ b ∷ []) → ((q : Name) → stands new q ≡ cond (same_name b.name.now q) (option_map entity_of b.before) (stands old q)) → IsTied new bs
  tied_less bs b t u = let k = kept_front [] bs b t.1 in ((λ q. u q ∙ back q k.1 (same_name b.name.now q) refl), k.0)
    where
      back : (q : Name) → option_map entity_of b.before ≡ find (seen [] bs) b.name.now → (same : Bool) → same_name b.name.now q ≡ same → cond same (option_map entity_of b.before) (stands old q) ≡ find (seen [] bs) q
      back q k true e = k ∙ ap (find (seen [] bs)) ((bytes_eq-Decides b.name.now q).0 e)
      back q k false e = t.0 q ∙ ap (λ s. find s q) (seen_last [] bs b) ∙ ap (λ x. cond x (Some (entity_of b.entity)) (find (seen [] bs) q)) e

  -- the same names in a map that has them too
  pub tied_same : (bs : List Binding) → IsTied old bs → ((q : Name) → stands new q ≡ stands old q) → IsTied new bs
  tied_same bs t u = ((λ q. u q ∙ t.0 q), t.1)

-- the last name stands for something
pub last_stands : {S : Type 0} (latest : HashMap (Bor (List ℕ)) Entity S) (bs : List Binding) (b : Binding) → IsTied latest (bs ++ b ∷ []) → stands latest b.name.now ≡ Some (entity_of b.entity)
last_stands latest bs b t = t.0 b.name.now ∙ ap (λ s. find s b.name.now) (seen_last [] bs b) ∙ ap (λ x. cond x (Some (entity_of b.entity)) (find (seen [] bs) b.name.now)) ((bytes_eq-Decides b.name.now b.name.now).1 refl)
