mod HoldingLaws
