-- Nests without some of their directive lines.
use Rattle.std.specs.Prelude.{ℕ, zero, suc, Bool, true, false, ◌&&◌, if◌then◌else◌, ◌≡◌, List, ◌∷◌, Option, Some, None, option_and_then}
use Rattle.std.proofs.Common.{refl, ap, ◌∙◌}
use Rattle.std.proofs.lemmas.Option.{none-some}
use Rattle.semantics.specs.Tree.{Stmt, Assign, Update, If, IfElse, For, Block, Print, Items, no_items, mark, local, stmt}
use Rattle.semantics.specs.Meaning.Value.{map_option}
use Rattle.semantics.specs.Loops.Nest.{Loop, as_loop, only_loop, nest_of}
use Rattle.law_lines.specs.Without.{without_in, without_among}
use Rattle.law_waves.specs.Silent.{is_silent, are_silent}

module _ (out : ℕ → Bool) where
  -- what stands first as it was, and what is run without these lines
  abbrev kept : {A : Type 0} → A × Stmt → A × Stmt
  kept found = (found.0, without_in out found.1)

  mutual
    loop_kept : (s : Stmt) (h : Loop) (b : Stmt) → as_loop s ≡ Some (h, b) → as_loop (without_in out s) ≡ Some (h, without_in out b)
    loop_kept (For x name start test step body) h b e = ap (map_option kept) e
    loop_kept (Block items) h b e = only_kept items h b e
    loop_kept (Assign x is a) h b e = absurd (none-some (h, b) e)
    loop_kept (Update x is op a) h b e = absurd (none-some (h, b) e)
    loop_kept (If c a) h b e = absurd (none-some (h, b) e)
    loop_kept (IfElse c a other) h b e = absurd (none-some (h, b) e)
    loop_kept (Print parts) h b e = absurd (none-some (h, b) e)

    only_kept : (items : Items) (h : Loop) (b : Stmt) → only_loop items ≡ Some (h, b) → only_loop (without_among out items) ≡ Some (h, without_in out b)
    only_kept (stmt s no_items) h b e = loop_kept s h b e
    only_kept no_items h b e = absurd (none-some (h, b) e)
    only_kept (mark n rest) h b e = absurd (none-some (h, b) e)
    only_kept (local x name start rest) h b e = absurd (none-some (h, b) e)
    only_kept (stmt s (mark n rest)) h b e = absurd (none-some (h, b) e)
    only_kept (stmt s (local x name start rest)) h b e = absurd (none-some (h, b) e)
    only_kept (stmt s (stmt t rest)) h b e = absurd (none-some (h, b) e)

  abbrev with_loop : Loop → List Loop × Stmt → List Loop × Stmt
  with_loop h inner = (h ∷ inner.0, inner.1)

  abbrev levels : ℕ → Option (Loop × Stmt) → Option (List Loop × Stmt)
  levels n o = option_and_then (λ found. map_option (with_loop found.0) (nest_of n found.1)) o

  -- the same loops, and their body
  pub nest_kept : (n : ℕ) (s : Stmt) (loops : List Loop) (body : Stmt) → nest_of n s ≡ Some (loops, body) → nest_of n (without_in out s) ≡ Some (loops, without_in out body)
  nest_kept zero s loops body e = ap (map_option kept) e
  nest_kept (suc n) s loops body e = by (as_loop s) refl (nest_kept n) e
    where
      Inside : Type 0
      Inside = (b : Stmt) (ls : List Loop) (t : Stmt) → nest_of n b ≡ Some (ls, t) → nest_of n (without_in out b) ≡ Some (ls, without_in out t)

      inner : (h : Loop) (b : Stmt) → as_loop s ≡ Some (h, b) → (o : Option (List Loop × Stmt)) → nest_of n b ≡ o → Inside → map_option (with_loop h) o ≡ Some (loops, body)
          → nest_of (suc n) (without_in out s) ≡ Some (loops, without_in out body)
      inner h b f None g rest i = absurd (none-some (loops, body) i)
      inner h b f (Some (ls, t)) g rest i = ap (levels n) (loop_kept s h b f) ∙ ap (map_option (with_loop h)) (rest b ls t g) ∙ ap (map_option kept) i

      by : (o : Option (Loop × Stmt)) → as_loop s ≡ o → Inside → levels n o ≡ Some (loops, body) → nest_of (suc n) (without_in out s) ≡ Some (loops, without_in out body)
      by None f rest g = absurd (none-some (loops, body) g)
      by (Some (h, b)) f rest g = inner h b f (nest_of n b) refl rest g

  mutual
    -- and what prints nothing prints nothing
    pub silent_kept : (s : Stmt) → is_silent (without_in out s) ≡ is_silent s
    silent_kept (Assign x is e) = refl
    silent_kept (Update x is op e) = refl
    silent_kept (If c a) = silent_kept a
    silent_kept (IfElse c a b) = ap (λ t. t && is_silent (without_in out b)) (silent_kept a) ∙ ap (λ t. is_silent a && t) (silent_kept b)
    silent_kept (For x name start test step body) = silent_kept body
    silent_kept (Block items) = all_silent_kept items
    silent_kept (Print parts) = refl

    all_silent_kept : (items : Items) → are_silent (without_among out items) ≡ are_silent items
    all_silent_kept no_items = refl
    all_silent_kept (mark n rest) = by (out n) (all_silent_kept rest)
      where
        by : (b : Bool) → are_silent (without_among out rest) ≡ are_silent rest → are_silent (if b then without_among out rest else mark n (without_among out rest)) ≡ are_silent rest
        by true e = e
        by false e = e
    all_silent_kept (local x name start rest) = all_silent_kept rest
    all_silent_kept (stmt s rest) = ap (λ t. t && are_silent (without_among out rest)) (silent_kept s) ∙ ap (λ t. is_silent s && t) (all_silent_kept rest)
