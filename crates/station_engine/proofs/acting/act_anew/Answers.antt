use Rattle.station_engine.proofs.acting.act_anew.Goals as goal

pub returns-in-Keyed-default-Stock : goal.returns-in-Keyed-default-Stock
returns-in-Keyed-default-Stock g c = c.do_order.ensures c.args.at
