-- What reading a text's tokens says of the text.
use Rattle.std.specs.Prelude.{ℕ, suc, true, false, ◌≡◌, ◌<◌, ◌≤◌, ◌^◌, List, [], ◌∷◌, length, Some}
use Rattle.std.proofs.Common.{refl, sym, ap, ◌∙◌, subst, arith}
use Rattle.semantics.specs.Tree.{Kernel}
use Rattle.semantics.specs.Source.Grammar.{Reads, ReadsText}
use Rattle.ctoken.specs.Meant.{AreTokensOf, LieIn, HasNoTokens}
use Rattle.ctoken.specs.declared.token.Token.{Token}
use Rattle.ctoken.proofs.FrontLaw.{one_cut}
use Rattle.cparse_grammar.specs.TextReader.{Whole, kernel}
use Rattle.cparse_cursor.specs.Lexemes.{tokens_of}
use Rattle.cparse_grammar.specs.SameTokens.{AreSame}
use Rattle.cparse.specs.LexedTokens.{AreLexed}
use Rattle.cparse.specs.Parsed.{HasNoTree, StopsFor}
use Rattle.cparse_cursor.specs.Outcome.{Fails}
use Rattle.cparse_cursor.specs.declared.lexeme.Lexeme.{Lexeme}
use Rattle.cparse_cursor.specs.declared.stop.Stop.{Stop}
use Rattle.cparse_cursor.specs.declared.stop.Stop.TheVariants as stop
use Rattle.law_grammar.proofs.Literals.{reads_fit, fit_are, are_back}
use Rattle.law_grammar.proofs.TextComplete.{kernel_read}
use Rattle.law_grammar.proofs.TextSound.{kernel_sound, one_tree}
use Rattle.cparse.proofs.WithBytes.{lexed_same}

same_tokens : (text : List ℕ) (ts : List Token) (ls : List Lexeme) (a : AreTokensOf text ts) → length text ≤ 2 ^ 20 → AreLexed text ts ls → AreSame (tokens_of ls) a.meant
same_tokens text ts ls a small l = lexed_same text 0 ts ls a.meant small a.stand a.placed l

-- what was read with nothing wrong in it is the text's tree
pub text_reads : (text : List ℕ) (ts : List Token) (ls : List Lexeme) (w : Whole) → AreTokensOf text ts → length text ≤ 2 ^ 20 → AreLexed text ts ls → kernel (tokens_of ls) ≡ Some w → w.sound ≡ true → ReadsText text w.tree
text_reads text ts ls w a small l e h =
    let r = kernel_sound (tokens_of ls) w e h in
    let is : tokens_of ls ≡ a.meant = fit_are (tokens_of ls) a.meant (reads_fit (tokens_of ls) w.tree r) (same_tokens text ts ls a small l) in
    record { tokens = a.meant; cut = a.cut; reads = subst (λ xs. Reads xs w.tree) is r; length = small }

-- a text's tree is read
pub reads_text : (text : List ℕ) (ts : List Token) (ls : List Lexeme) (tree : Kernel) → AreTokensOf text ts → length text ≤ 2 ^ 20 → AreLexed text ts ls → ReadsText text tree → kernel (tokens_of ls) ≡ Some (record { tree = tree; sound = true })
reads_text text ts ls tree a small l r =
    let unique : r.tokens ≡ a.meant = one_cut r.cut.cut a.cut.cut in
    let reads : Reads a.meant tree = subst (λ xs. Reads xs tree) unique r.reads in
    let is : a.meant ≡ tokens_of ls = fit_are a.meant (tokens_of ls) (reads_fit a.meant tree reads) (are_back (tokens_of ls) a.meant (same_tokens text ts ls a small l)) in
    ap kernel (sym is) ∙ kernel_read a.meant tree reads

-- where nothing was read there is no tree, nor where something is wrong
pub nothing_read : (text : List ℕ) (ts : List Token) (ls : List Lexeme) (e : Stop) → AreTokensOf text ts → length text ≤ 2 ^ 20 → AreLexed text ts ls → Fails e (kernel (tokens_of ls)) → StopsFor text e
nothing_read text ts ls stop.Memory a small l f = tt
nothing_read text ts ls (stop.Syntax place) a small l f = λ tree r. (let e = sym f ∙ reads_text text ts ls tree a small l r in absurd (cc))
nothing_read text ts ls (stop.Limit place) a small l f = λ tree r. (let e = sym f ∙ reads_text text ts ls tree a small l r in absurd (cc))

pub wrong_read : (text : List ℕ) (ts : List Token) (ls : List Lexeme) (w : Whole) → AreTokensOf text ts → length text ≤ 2 ^ 20 → AreLexed text ts ls → kernel (tokens_of ls) ≡ Some w → w.sound ≡ false → HasNoTree text
wrong_read text ts ls w a small l e h tree r = let same : Some w ≡ Some (record { tree = tree; sound = true }) = sym e ∙ reads_text text ts ls tree a small l r in absurd (cc)

-- without tokens there is no tree
pub no_tokens : (text : List ℕ) → HasNoTokens text → HasNoTree text
no_tokens text h tree r = h r.tokens r.cut

-- the same list
pub lexed : (text : List ℕ) (ts : List Token) {ls ms : List Lexeme} → ls ≡ ms → AreLexed text ts ms → AreLexed text ts ls
lexed text ts e l = subst (λ xs. AreLexed text ts xs) (sym e) l

-- a text that is too long has no tree
pub too_long_text : (text : List ℕ) → 2 ^ 20 < length text → HasNoTree text
too_long_text text h tree r = let l : length text ≤ 2 ^ 20 = r.length in absurd (omega arith)

-- where there is no tree any stop will do
pub any_stop : (text : List ℕ) (e : Stop) → HasNoTree text → StopsFor text e
any_stop text stop.Memory h = tt
any_stop text (stop.Syntax place) h = h
any_stop text (stop.Limit place) h = h

-- a text has one tree
pub one_tree_each : (text : List ℕ) (a b : Kernel) → ReadsText text a → ReadsText text b → a ≡ b
one_tree_each text a b r q =
    let same : r.tokens ≡ q.tokens = one_cut r.cut.cut q.cut.cut in
    one_tree q.tokens a b (subst (λ ts. Reads ts a) same r.reads) q.reads

-- a text of so many bytes has no more tokens
lexed_many : (text : List ℕ) (ts : List Token) (ls : List Lexeme) → AreLexed text ts ls → length ls ≡ length ts
lexed_many text [] [] l = refl
lexed_many text [] (x ∷ ls) l = absurd l
lexed_many text (t ∷ ts) [] l = absurd l
lexed_many text (t ∷ ts) (x ∷ ls) l = ap suc (lexed_many text ts ls l.1)

pub few_lexed : (text : List ℕ) (ts : List Token) (ms : List Lexeme) {ls : List Lexeme} → ls ≡ ms → AreLexed text ts ms → LieIn text ts → length text ≤ 2 ^ 20 → length ls ≤ 2 ^ 20
few_lexed text ts ms {ls} e l h small =
    let many : length ms ≡ length ts = lexed_many text ts ms l in
    let same : length ls ≡ length ms = ap (λ xs. length xs) e in
    let few : length ts ≤ length text = h.count in
    omega arith
