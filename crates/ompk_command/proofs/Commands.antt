-- What a command with subcommands is.
use Rattle.std.proofs.Common.{Result, Ok, Err, IfErr, inl, inr, [], ◌∷◌, Bool, true, false, not, refl, ap, ap₂, ◌≡◌, ◌∙◌, ◌&&◌}
use Rattle.std.specs.Prelude.{IsErrAnd}
use Rattle.clap.specs.Words.{AddsSubcommand, App, Shape, app_of, with_subcommand}
use Rattle.clap.specs.Words.{HasKind, Kinds, kind_of}
use Rattle.clap.specs.declared.error.Error.{Error}
use Rattle.clap.specs.declared.error.kind.ErrorKind.TheVariants as kind
use Rattle.clap.specs.declared.builder.command.Command.{Command}
use Rattle.clap.specs.declared.builder.command.Command.TheViews.{out-Command}
use Rattle.ompk_command.specs.Orders.{alone}

third : (a b c d : Bool) → (a && (b && (not c && d))) ≡ true → c ≡ false
third true true false d e = refl
third true true true d e = cc
third true false c d e = cc
third false b c d e = cc

-- one more subcommand, the last
pub with_one : (old sub new : Command) (shape : Shape) (before : App) → shape.is_plain ≡ true → app_of sub ≡ alone shape
    → AddsSubcommand old sub new → app_of old ≡ before → app_of new ≡ with_subcommand before shape
with_one old sub new shape before plain is added was =
    added.shape (third _ _ (out-Command sub).has_globals _ (ap (λ (a : App). a.top.is_plain) is ∙ plain))
    ∙ ap₂ with_subcommand was (ap (λ (a : App). a.top) is)

-- what is so of the error that a `?` hands on
pub on_err : {T E : Type 0} {Q : E → Type 0} (P : E → Type 0) (r : Result T E) → IsErrAnd r Q → ((e : E) → Q e → P e) → IfErr r P
on_err P (Ok x) is so = absurd is
on_err P (Err e) is so = so e is

-- an error where no kind is expected
pub for_memory : (kinds : Kinds) (e : Error) → kinds ≡ [] → HasKind kinds e → kind_of e ≡ kind.OutOfMemory
for_memory [] e none (inl is) = is
for_memory [] e none (inr is) = absurd is
for_memory (k ∷ ks) e none is = cc
