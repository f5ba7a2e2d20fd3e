-- The loop over a block's items.
use Rattle.std.proofs.Common.{◌≡◌, ℕ, zero, suc, Bool, true, false, List, [], ◌∷◌, Option, Some, None, refl, sym, ap, ◌∙◌}
use Rattle.std.specs.Prelude.{◌&&◌, if◌then◌else◌, codes}
use Rattle.semantics.specs.Tree.{Name, Source, Stmt, Items, no_items, mark, local, stmt}
use Rattle.semantics.specs.Source.Token.{Token, Word, Punctuator, Line, OpenBrace}
use Rattle.semantics.specs.Source.Scope.{Scope, same_name}
use Rattle.cparse_cursor.specs.declared.stop.Stop.{Stop}
use Rattle.cparse_cursor.specs.declared.stop.Stop.TheVariants.{Memory, Syntax, Limit}
use Rattle.cparse_cursor.specs.Outcome.{Fails}
use Rattle.cparse_grammar.specs.Reading.{Got, ◌>>=◌}
use Rattle.cparse_grammar.specs.ExpressionReader.{expression}
use Rattle.cparse_grammar.specs.StatementReader.{Tally, Told, StmtReader, told, with_local, declared, is_unused, initial, with_stmt, items}
use Rattle.cparse_grammar.specs.NextTokens.{new_name}
use Rattle.cparse_grammar.specs.StatementParts.{Row, begins_item, item, stated, located, append_items, with_item}
use Rattle.cparse_stmt.proofs.ItemLemmas.{append_assoc, append_none}

abbrev told_items : Items → Bool → Tally → List Token → Option (Told Items)
told_items tree sound tally rest = told tree sound tally rest

and_true : (b : Bool) → (b && true) ≡ b
and_true true = refl
and_true false = refl

and_assoc : (a b c : Bool) → (a && (b && c)) ≡ ((a && b) && c)
and_assoc true b c = refl
and_assoc false b c = refl

-- what is left of a block, behind a row of items
abbrev pub items_run : ℕ → StmtReader → ℕ → Row → Option (Told Items)
items_run room read n s = items n room read s.scope s.tally s.rest >>= λ more. told (append_items s.tree more.tree) (s.sound && more.sound) more.tally more.rest

-- what follows an item
abbrev pub after_item : ℕ → StmtReader → ℕ → Row → Option (Told Items)
after_item room read n t = items n room read t.scope t.tally t.rest >>= λ more. told (append_items t.tree more.tree) (t.sound && more.sound) more.tally more.rest

stated_by : (room n : ℕ) (read : StmtReader) (scope : Scope) (tally : Tally) (ts : List Token)
    → (read scope tally ts >>= λ s. items n room read scope s.tally s.rest >>= λ more. with_stmt s more) ≡ stated read scope tally ts >>= after_item room read n
stated_by room n read scope tally ts = go (read scope tally ts)
  where
    go : (o : Option (Told Stmt)) → (o >>= λ s. items n room read scope s.tally s.rest >>= λ more. with_stmt s more) ≡ (o >>= λ s. Some (record { tree = stmt s.tree no_items; sound = s.sound; scope = scope; tally = s.tally; rest = s.rest })) >>= after_item room read n
    go None = refl
    go (Some s) = refl

located_by : (room n : ℕ) (read : StmtReader) (scope : Scope) (tally : Tally) (ts : List Token)
    → (new_name ts >>= λ name. initial (expression room (with_local scope name.0 tally)) name.1 >>= λ start.
    items n room read (with_local scope name.0 tally) (declared tally) start.rest >>= λ more.
    told (local tally.next name.0 start.tree more.tree) (is_unused scope name.0 && (start.sound && more.sound)) more.tally more.rest)
    ≡ located room scope tally ts >>= after_item room read n
located_by room n read scope tally ts = go (new_name ts)
  where
    more : (name : Name × List Token) (start : Got (Option Source)) (o : Option (Told Items))
        → (o >>= λ more. told (local tally.next name.0 start.tree more.tree) (is_unused scope name.0 && (start.sound && more.sound)) more.tally more.rest)
        ≡ (o >>= λ more. told (local tally.next name.0 start.tree more.tree) ((is_unused scope name.0 && start.sound) && more.sound) more.tally more.rest)
    more name start None = refl
    more name start (Some m) = ap (λ sound. told_items (local tally.next name.0 start.tree m.tree) sound m.tally m.rest) (and_assoc (is_unused scope name.0) start.sound m.sound)

    first : (name : Name × List Token) (o : Option (Got (Option Source)))
        → (o >>= λ start. items n room read (with_local scope name.0 tally) (declared tally) start.rest >>= λ more.
        told (local tally.next name.0 start.tree more.tree) (is_unused scope name.0 && (start.sound && more.sound)) more.tally more.rest)
        ≡ (o >>= λ start. Some (record { tree = local tally.next name.0 start.tree no_items; sound = is_unused scope name.0 && start.sound; scope = with_local scope name.0 tally; tally = declared tally; rest = start.rest })) >>= after_item room read n
    first name None = refl
    first name (Some start) = more name start (items n room read (with_local scope name.0 tally) (declared tally) start.rest)

    go : (o : Option (Name × List Token)) → (o >>= λ name. initial (expression room (with_local scope name.0 tally)) name.1 >>= λ start.
        items n room read (with_local scope name.0 tally) (declared tally) start.rest >>= λ more.
        told (local tally.next name.0 start.tree more.tree) (is_unused scope name.0 && (start.sound && more.sound)) more.tally more.rest)
        ≡ (o >>= λ name. initial (expression room (with_local scope name.0 tally)) name.1 >>= λ start.
        Some (record { tree = local tally.next name.0 start.tree no_items; sound = is_unused scope name.0 && start.sound; scope = with_local scope name.0 tally; tally = declared tally; rest = start.rest })) >>= after_item room read n
    go None = refl
    go (Some name) = first name (initial (expression room (with_local scope name.0 tally)) name.1)

-- an item begins
pub items_by : (room n : ℕ) (read : StmtReader) (scope : Scope) (tally : Tally) (ts : List Token) → begins_item ts ≡ true
    → items (suc n) room read scope tally ts ≡ item room read scope tally ts >>= after_item room read n
items_by room n read scope tally [] e = absurd cc
items_by room n read scope tally (Line line ∷ ts) e = go (items n room read scope tally ts)
  where
    go : (o : Option (Told Items)) → (o >>= λ more. told (mark line more.tree) more.sound more.tally more.rest) ≡ (o >>= λ more. told (mark line more.tree) (true && more.sound) more.tally more.rest)
    go None = refl
    go (Some more) = refl
items_by room n read scope tally (Punctuator OpenBrace ∷ ts) e = stated_by room n read scope tally (Punctuator OpenBrace ∷ ts)
items_by room n read scope tally (Word w ∷ ts) e = go (same_name w (codes "uint64_t"))
  where
    go : (b : Bool) → (if b
        then (new_name ts >>= λ name. initial (expression room (with_local scope name.0 tally)) name.1 >>= λ start.
        items n room read (with_local scope name.0 tally) (declared tally) start.rest >>= λ more.
        told (local tally.next name.0 start.tree more.tree) (is_unused scope name.0 && (start.sound && more.sound)) more.tally more.rest)
        else (read scope tally (Word w ∷ ts) >>= λ s. items n room read scope s.tally s.rest >>= λ more. with_stmt s more))
        ≡ (if b then located room scope tally ts else stated read scope tally (Word w ∷ ts)) >>= after_item room read n
    go true = located_by room n read scope tally ts
    go false = stated_by room n read scope tally (Word w ∷ ts)
items_by room n read scope tally (t ∷ ts) e = absurd cc

-- none does
pub items_end : (room n : ℕ) (read : StmtReader) (scope : Scope) (tally : Tally) (ts : List Token) → begins_item ts ≡ false → items n room read scope tally ts ≡ told no_items true tally ts
items_end room zero read scope tally ts e = refl
items_end room (suc n) read scope tally [] e = refl
items_end room (suc n) read scope tally (Line line ∷ ts) e = absurd cc
items_end room (suc n) read scope tally (Punctuator OpenBrace ∷ ts) e = absurd cc
items_end room (suc n) read scope tally (Word w ∷ ts) e = absurd cc
items_end room (suc n) read scope tally (t ∷ ts) e = refl

run_end : (s : Row) → told_items (append_items s.tree no_items) (s.sound && true) s.tally s.rest ≡ told s.tree s.sound s.tally s.rest
run_end s = ap (λ tree. told_items tree (s.sound && true) s.tally s.rest) (append_none s.tree) ∙ ap (λ sound. told_items s.tree sound s.tally s.rest) (and_true s.sound)

pub run_begins : (room n : ℕ) (read : StmtReader) (scope : Scope) (tally : Tally) (ts : List Token) → items_run room read n (record { tree = no_items; sound = true; scope = scope; tally = tally; rest = ts }) ≡ items n room read scope tally ts
run_begins room n read scope tally ts = go (items n room read scope tally ts)
  where
    go : (o : Option (Told Items)) → (o >>= λ more. told (append_items no_items more.tree) (true && more.sound) more.tally more.rest) ≡ o
    go None = refl
    go (Some more) = refl

pub run_ends : (room : ℕ) (read : StmtReader) (n : ℕ) (s : Row) → begins_item s.rest ≡ false → items_run room read n s ≡ told s.tree s.sound s.tally s.rest
run_ends room read n s e = ap (λ o. o >>= λ more. told (append_items s.tree more.tree) (s.sound && more.sound) more.tally more.rest) (items_end room n read s.scope s.tally s.rest e) ∙ run_end s

pub run_out : (room : ℕ) (read : StmtReader) (s : Row) → items_run room read 0 s ≡ told s.tree s.sound s.tally s.rest
run_out room read s = run_end s

run_by : (room : ℕ) (read : StmtReader) (n : ℕ) (s : Row) → begins_item s.rest ≡ true
    → items_run room read (suc n) s ≡ (item room read s.scope s.tally s.rest >>= after_item room read n) >>= λ more. told (append_items s.tree more.tree) (s.sound && more.sound) more.tally more.rest
run_by room read n s e = ap (λ o. o >>= λ more. told (append_items s.tree more.tree) (s.sound && more.sound) more.tally more.rest) (items_by room n read s.scope s.tally s.rest e)

pub run_fails : (e : Stop) (room : ℕ) (read : StmtReader) (n : ℕ) (s : Row) → begins_item s.rest ≡ true → Fails e (item room read s.scope s.tally s.rest) → Fails e (items_run room read (suc n) s)
run_fails Memory room read n s b f = tt
run_fails (Syntax place) room read n s b f = run_by room read n s b ∙ ap (λ o. (o >>= after_item room read n) >>= λ more. told (append_items s.tree more.tree) (s.sound && more.sound) more.tally more.rest) f
run_fails (Limit place) room read n s b f = run_by room read n s b ∙ ap (λ o. (o >>= after_item room read n) >>= λ more. told (append_items s.tree more.tree) (s.sound && more.sound) more.tally more.rest) f

pub run_goes : (room : ℕ) (read : StmtReader) (n : ℕ) (s t : Row) → begins_item s.rest ≡ true → item room read s.scope s.tally s.rest ≡ Some t → items_run room read (suc n) s ≡ items_run room read n (with_item s t)
run_goes room read n s t b f =
    run_by room read n s b ∙ (ap (λ o. (o >>= after_item room read n) >>= λ more. told (append_items s.tree more.tree) (s.sound && more.sound) more.tally more.rest) f
    ∙ go (items n room read t.scope t.tally t.rest))
  where
    go : (o : Option (Told Items)) → ((o >>= λ more. told (append_items t.tree more.tree) (t.sound && more.sound) more.tally more.rest) >>= λ more. told (append_items s.tree more.tree) (s.sound && more.sound) more.tally more.rest)
        ≡ (o >>= λ more. told (append_items (append_items s.tree t.tree) more.tree) ((s.sound && t.sound) && more.sound) more.tally more.rest)
    go None = refl
    go (Some m) =
        ap (λ tree. told_items tree (s.sound && (t.sound && m.sound)) m.tally m.rest) (sym (append_assoc s.tree t.tree m.tree))
        ∙ ap (λ sound. told_items (append_items (append_items s.tree t.tree) m.tree) sound m.tally m.rest) (and_assoc s.sound t.sound m.sound)
