use Rattle.std.proofs.Common.{arith, rules, false-eqb}
use Rattle.console.proofs.Cutting.{last_word, next_word}
use Rattle.console.proofs.words.WordsIterator.next.Goals as goal
use Rattle.std.proofs.iter.Next.{firm}

pub returns-then-is_empty : goal.returns-then-is_empty
returns-then-is_empty c =
    record {
      steps = last_word c.args.self.now.rest.now _ _ c.cut_word.ensures.word c.cut_word.ensures.rest c.if-is_empty.ensures;
      goes = search rules;
    }

pub returns-else-is_empty : goal.returns-else-is_empty
returns-else-is_empty c =
    record {
      steps = next_word c.args.self.now.rest.now _ _ c.cut_word.ensures.word c.cut_word.ensures.rest c.if-is_empty.ensures;
      goes = firm ((tt, tt, omega (arith, false-eqb _ 0 c.if-is_empty.ensures, c.cut_word.ensures.within))) (λ h. search rules);
    }
