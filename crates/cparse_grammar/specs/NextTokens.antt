-- What comes next at the front of a list of tokens.
use Rattle.std.specs.Prelude.{Bool, true, not, if◌then◌else◌, List, ◌∷◌, Option, Some, None}
use Rattle.semantics.specs.Tree.{Name}
use Rattle.semantics.specs.Source.Token.{Token, Word, Punctuator, Symbol, Semicolon, Comma, OpenParen, CloseParen, OpenBracket, CloseBracket, OpenBrace, CloseBrace, Question, Colon, EqualSign}
use Rattle.semantics.specs.Source.Scope.{Entity, is_reserved, same_name}
use Rattle.semantics.specs.Source.Cuts.{symbol_text}

-- this punctuator comes next
abbrev pub punctuator : Symbol → List Token → Option (List Token)
punctuator s (Punctuator t ∷ ts) = if same_name (symbol_text t) (symbol_text s) then Some ts else None
punctuator s _ = None

abbrev pub close_paren : List Token → Option (List Token)
close_paren = punctuator CloseParen

abbrev pub close_bracket : List Token → Option (List Token)
close_bracket = punctuator CloseBracket

abbrev pub question_mark : List Token → Option (List Token)
question_mark = punctuator Question

abbrev pub colon : List Token → Option (List Token)
colon = punctuator Colon

abbrev pub open_bracket : List Token → Option (List Token)
open_bracket = punctuator OpenBracket

abbrev pub semicolon : List Token → Option (List Token)
semicolon = punctuator Semicolon

abbrev pub open_paren : List Token → Option (List Token)
open_paren = punctuator OpenParen

abbrev pub equal_sign : List Token → Option (List Token)
equal_sign = punctuator EqualSign

abbrev pub close_brace : List Token → Option (List Token)
close_brace = punctuator CloseBrace

abbrev pub open_brace : List Token → Option (List Token)
open_brace = punctuator OpenBrace

abbrev pub comma : List Token → Option (List Token)
comma = punctuator Comma

-- a symbol comes next
abbrev pub sign : List Token → Option (Symbol × List Token)
sign (Punctuator s ∷ ts) = Some (s, ts)
sign _ = None

-- this word comes next
abbrev pub word : Name → List Token → Option (List Token)
word w (Word v ∷ ts) = if same_name v w then Some ts else None
word w _ = None

-- a word that may be declared comes next
abbrev pub new_name : List Token → Option (Name × List Token)
new_name (Word w ∷ ts) = if is_reserved w then None else Some (w, ts)
new_name _ = None

-- a word comes next
abbrev pub next_word : List Token → Option (Name × List Token)
next_word (Word w ∷ ts) = Some (w, ts)
next_word _ = None

-- a word that is no name stands for nothing
abbrev pub may_be_named : Option Entity → Name → Bool
may_be_named None name = not (is_reserved name)
may_be_named (Some e) name = true
