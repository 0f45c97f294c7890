-- Opens each production of the grammar: to unfold this is to unfold them all.
use Rattle.unity_syntax.specs.Grammar.{end_, range_, atom_, product_, sum_, compare_, unit_, joined_, pred_}
use Rattle.unity_syntax.specs.Grammar.{quantified_, parentheses_, values_, alts_, target_, comp_, assign_}
use Rattle.unity_syntax.specs.Grammar.{quantified_assign_, item_, items_, quantified_items_, start_index_, init_value_}
use Rattle.unity_syntax.specs.Grammar.{init_, def_, words_, plain_, var_type_, var_, union_program_, plain_program_}
use Rattle.unity_syntax.specs.Grammar.{program_, ends_, ref_, inst_, other_term_, term_, imply_, pair_, exists_}
use Rattle.unity_syntax.specs.Grammar.{induct_, psp_, weaken_, rule_, claim_, param_, params_, step_, proof_, multiple_}
use Rattle.unity_syntax.specs.Grammar.{node_, certificate_, certificates_, schedule_, part_, document_}

unfoldable pub all_productions : Unit {0}
unfolding end_ range_ atom_ product_ sum_ compare_ unit_ joined_ pred_ quantified_ parentheses_ values_ alts_ target_
    comp_ assign_ quantified_assign_ item_ items_ quantified_items_ start_index_ init_value_ init_ def_ words_ plain_
    var_type_ var_ union_program_ plain_program_ program_ ends_ ref_ inst_ other_term_ term_ imply_ pair_ exists_
    induct_ psp_ weaken_ rule_ claim_ param_ params_ step_ proof_ multiple_ node_ certificate_ certificates_ schedule_
    part_ document_
all_productions = tt
