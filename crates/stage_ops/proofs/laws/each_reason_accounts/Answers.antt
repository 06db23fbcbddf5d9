use Rattle.stage_ops.proofs.Accounting.{each_accounts, each_is_latest}
use Rattle.stage_ops.proofs.OpenLemmas.{each_is_open}
use Rattle.stage_ops.proofs.laws.each_reason_accounts.Goals as goal

pub returns-clause-accounts : goal.returns-clause-accounts
returns-clause-accounts c = λ mode stage inputs. each_accounts mode stage inputs

pub returns-clause-latest : goal.returns-clause-latest
returns-clause-latest c = λ mode stage inputs. each_is_latest mode stage inputs

pub returns-clause-open : goal.returns-clause-open
returns-clause-open c = λ mode stage inputs arity. each_is_open mode stage inputs arity
