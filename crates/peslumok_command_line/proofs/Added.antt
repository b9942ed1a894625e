-- Arguments that are added one after another.
use Rattle.std.proofs.Common.{◌≡◌, ◌∙◌, ◌||◌, ◌++◌, List, [], ◌∷◌, false, ap, ap₂, sym}
use Rattle.std.proofs.Common.{◌+◌, ◌<◌, ℕ, get_or, length, map, subst, take}
use Rattle.std.proofs.lemmas.List.{append_assoc, append-nil, map-append, take_more}
use Rattle.clap.specs.Words.{App, AddsArg, AddsSubcommand, Rule, app_of, rule_of, with_rule}
use Rattle.clap.specs.Words.{with_subcommand}
use Rattle.clap.specs.declared.builder.arg.Arg.{Arg}
use Rattle.clap.specs.declared.builder.command.Command.{Command}
use Rattle.peslumok_command_line.specs.Adds.{AddsRules, HasNoGlobals}
use Rattle.peslumok_command_line.specs.CommandLine.{with_rules}
use Rattle.peslumok_command_line.specs.OptionRules.{option_rule}
use Rattle.peslumok_command_line.specs.declared.named_option.NamedOption.{NamedOption}

-- rules that are added to those of a command
with_more : App → List Rule → App
with_more app rules = record app { top = record app.top { rules = rules } }

-- no argument is added
pub adds_none : (c : Command) → AddsRules [] c c
unfolding with_more
adds_none c = record {
  app = ap (with_more (app_of c)) (sym (append-nil (app_of c).top.rules));
  local = λ h. h;
}

-- one more argument is added
pub adds_last : (old mid new : Command) (a : Arg) (rules : List Rule) (rule : Rule)
    → AddsRules rules old mid → AddsArg mid a new → a.global ≡ false → rule_of a ≡ rule
    → AddsRules (rules ++ rule ∷ []) old new
unfolding with_more
adds_last old mid new a rules rule more one is_local is_rule = record {
  app = one.shape is_local ∙ ap₂ with_rule more.app is_rule
      ∙ ap (with_more (app_of old)) (append_assoc (app_of old).top.rules rules (rule ∷ []));
  local = λ h. one.globals ∙ ap₂ (λ x y. x || y) (more.local h) is_local;
}

-- one more option is added
pub adds_next : (old mid new : Command) (a : Arg) (options : List NamedOption) (i : ℕ)
    (d : NamedOption) → i < length options
    → AddsRules (map option_rule (take i options)) old mid → AddsArg mid a new
    → a.global ≡ false → rule_of a ≡ option_rule (get_or options i d)
    → AddsRules (map option_rule (take (i + 1) options)) old new
adds_next old mid new a options i d lt more one is_local is_rule =
    let option = get_or options i d in
    let before = map option_rule (take i options) in
    subst (λ (rules : List Rule). AddsRules rules old new)
    (sym (ap (map option_rule) (take_more options i d lt)
    ∙ map-append option_rule (take i options) (option ∷ [])))
    (adds_last old mid new a before (option_rule option) more one is_local is_rule)

-- some arguments are added, and then others
pub adds_both : (old mid new : Command) (first second : List Rule)
    → AddsRules first old mid → AddsRules second mid new → AddsRules (first ++ second) old new
unfolding with_more
adds_both old mid new first second one two = record {
  app = two.app ∙ ap (λ (app : App). with_rules app second) one.app
      ∙ ap (with_more (app_of old)) (append_assoc (app_of old).top.rules first second);
  local = λ h. two.local (one.local h);
}

-- a command is added below another
pub adds_command : (old new below : Command) (app other : App)
    → AddsSubcommand old below new → HasNoGlobals below → app_of old ≡ app
    → app_of below ≡ other → app_of new ≡ with_subcommand app other.top
adds_command old new below app other adds is_local is is_below =
    adds.shape is_local ∙ ap₂ with_subcommand is (ap (λ (a : App). a.top) is_below)
