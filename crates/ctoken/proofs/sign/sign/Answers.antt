use Rattle.std.proofs.Common.{◌∙◌, refl, sym, ap, option_map}
use Rattle.std.proofs.lemmas.List.{nil_from_length}
use Rattle.semantics.specs.Source.Token as meant
use Rattle.ctoken.specs.Meant.{symbol_of}
use Rattle.ctoken.proofs.SignLaw.{sign-long, sign-last, sign-short}
use Rattle.ctoken.proofs.sign.sign.Goals as goal
use Rattle.ctoken.proofs.sign.sign.Goals.{in-Some+in_default-long_symbol, in_default}

pub returns-in-Some-long_symbol : goal.returns-in-Some-long_symbol
returns-in-Some-long_symbol c = (
  meant.Punctuator (symbol_of c.in-Some-long_symbol.symbol),
  sign-long c.args.first c.in-Some.second.now c.args.rest.now c.in-Some._more.now (symbol_of c.in-Some-long_symbol.symbol) c.in-Some.ensures.cases.0
      (sym c.long_symbol.ensures ∙ ap (option_map symbol_of) c.in-Some-long_symbol.is),
  refl,
)

pub returns-in-Some-short_symbol : goal.returns-in-Some-short_symbol
returns-in-Some-short_symbol c =
    let short = sym c.short_symbol.ensures ∙ ap (option_map symbol_of) c.in-Some-short_symbol.is in (
      meant.Punctuator (symbol_of c.in-Some-short_symbol.symbol),
      elim c.match-split_first.branch [
        | in-Some+in_default-long_symbol w ↦
            sign-short c.args.first w.in-Some.second.now c.args.rest.now w.in-Some._more.now (symbol_of c.in-Some-short_symbol.symbol) w.in-Some.ensures.cases.0
            (sym w.long_symbol.ensures ∙ ap (option_map symbol_of) w.in_default-long_symbol.is) short
        | in_default w ↦ sign-last c.args.first c.args.rest.now (symbol_of c.in-Some-short_symbol.symbol) (nil_from_length c.args.rest.now w.in_default.ensures.cases) short
      ],
      refl,
    )
