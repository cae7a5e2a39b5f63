mod NamePlaces
