-- As `proofs/Executed.antt` has it.
use Rattle.client_answers.proofs.Executed.{executed_in, gives, new_gives, old_gives}
use Rattle.client_answers.proofs.an_execution_gives_its_reply.Goals as goal

pub returns : goal.returns
returns k = record {
  executed = λ c me s row t next number digest result within. executed_in c me s row t next number digest result within;
  given = λ c me s row number digest result w reply e. gives c me s row number digest result w reply e;
  new = λ c me signer rows s lawful row number digest result w m named new. new_gives c me signer rows s lawful row number digest result w m named new;
  old = λ c me signer rows s lawful row number digest result w m named old. old_gives c me signer rows s lawful row number digest result w m named old;
}
